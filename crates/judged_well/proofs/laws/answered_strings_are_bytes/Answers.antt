use Rattle.judged_well.proofs.Judging.{weaken}
use Rattle.judged_well.proofs.Whole.{t_answer}
use Rattle.judged_well.proofs.Spelled.{answer_bytes}
use Rattle.judged_well.proofs.laws.answered_strings_are_bytes.Goals as goal

pub returns : goal.returns
returns c = λ e order p read w right result k g end_word r. weaken (t_answer e order p read w right result k g end_word r) (λ o h. answer_bytes e result o h)
