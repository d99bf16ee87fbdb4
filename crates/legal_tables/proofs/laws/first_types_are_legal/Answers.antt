use Rattle.legal_tables.proofs.Keeping.{first_legal}
use Rattle.legal_tables.proofs.laws.first_types_are_legal.Goals as goal

pub returns : goal.returns
returns c = λ b entries signatures. first_legal b entries signatures
