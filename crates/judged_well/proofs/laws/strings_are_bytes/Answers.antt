use Rattle.judged_well.specs.Typing.{outline}
use Rattle.judged_well.proofs.Judging.{weaken}
use Rattle.judged_well.proofs.Statements.{t_statements}
use Rattle.judged_well.proofs.Spelled.{b_statements}
use Rattle.judged_well.proofs.laws.strings_are_bytes.Goals as goal

pub returns : goal.returns
returns c = λ e order p read w right x. weaken (t_statements e order p read w right x) (λ xs h. b_statements e (outline e) xs h)
