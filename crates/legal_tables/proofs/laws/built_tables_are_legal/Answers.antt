use Rattle.legal_tables.proofs.Legal.{legal_table}
use Rattle.legal_tables.proofs.laws.built_tables_are_legal.Goals as goal

pub returns : goal.returns
returns c = λ b built legal. legal_table b built legal
