use Rattle.legal_tables.proofs.Judged.{parts_legal}
use Rattle.legal_tables.proofs.laws.judged_parameters_are_legal.Goals as goal

pub returns : goal.returns
returns c = λ t x l same listed result. parts_legal t x l same listed result
