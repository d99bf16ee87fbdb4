use Rattle.judged_outlines.proofs.ends.Modules.{none_end}
use Rattle.judged_outlines.proofs.ends.laws.no_modules_end_well.Goals as goal

pub returns : goal.returns
returns c = none_end
