use Rattle.legal_tables.proofs.Keeping.{kept_with}
use Rattle.legal_tables.proofs.laws.procedure_types_stay_legal.Goals as goal

pub returns : goal.returns
returns c = λ b c built after grows stay k entries new x signatures parts h. kept_with b c built after grows stay k entries new x signatures parts h
