use Rattle.start_outlines.proofs.Modules.{outlines_stay}
use Rattle.start_outlines.proofs.laws.outlines_stay.Goals as goal

pub returns : goal.returns
returns c = outlines_stay
