use Rattle.legal_tables.proofs.Keeping.{kept}
use Rattle.legal_tables.proofs.laws.types_stay_legal.Goals as goal

pub returns : goal.returns
returns c = λ b c built after grows stay k entries new same h. kept b c built after grows stay k entries new same h
