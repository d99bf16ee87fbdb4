use Rattle.later_types.proofs.Completed.{body_alike}
use Rattle.later_types.proofs.laws.bodies_are_judged_alike.Goals as goal

pub returns : goal.returns
returns c = λ k p b s later upright rooted stays. body_alike k p s later upright rooted stays b
