use Rattle.judged_fronts.proofs.Modules.{modules_stay}
use Rattle.judged_fronts.proofs.laws.modules_stay.Goals as goal

pub returns : goal.returns
returns c = modules_stay
