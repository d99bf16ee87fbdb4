use Rattle.lowered_valid.proofs.Valid.{valid_all, small_valid}
use Rattle.lowered_valid.proofs.Samples.{some_lowers}
use Rattle.lowered_valid.proofs.laws.lowered_procedures_are_valid.Goals as goal

pub returns-clause-valid : goal.returns-clause-valid
returns-clause-valid c = valid_all

pub returns-clause-small : goal.returns-clause-small
returns-clause-small c = small_valid

pub returns-clause-some : goal.returns-clause-some
returns-clause-some c = λ b v. some_lowers b v
