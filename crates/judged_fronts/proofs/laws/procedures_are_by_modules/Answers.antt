use Rattle.judged_fronts.proofs.Modules.{by_modules}
use Rattle.judged_fronts.proofs.laws.procedures_are_by_modules.Goals as goal

pub returns : goal.returns
returns c = by_modules
