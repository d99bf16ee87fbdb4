use Rattle.later_types.proofs.Completed.{procedure_alike}
use Rattle.later_types.proofs.laws.procedures_are_completed_alike.Goals as goal

pub returns : goal.returns
returns c = λ k p q h s later upright rooted known stays. procedure_alike k p s later upright rooted stays q h known
