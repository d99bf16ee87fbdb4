use Rattle.legal_tables.proofs.Judged.{array_legal}
use Rattle.legal_tables.proofs.laws.judged_arrays_are_legal.Goals as goal

pub returns : goal.returns
returns c = λ known n a length is few. array_legal known n a length is few
