use Rattle.later_types.proofs.Completed.{answer_alike}
use Rattle.later_types.proofs.laws.answers_are_judged_alike.Goals as goal

pub returns : goal.returns
returns c = λ k p result end_word r s later upright rooted known stays. answer_alike k p s later upright rooted stays result known end_word r
