use Rattle.ssa_statements.proofs.Loops.{rounds_more}
use Rattle.ssa_statements.proofs.laws.guards_are_made.Goals as goal

pub returns : goal.returns
returns c = λ v u u2 w t f mask head outside next args rs x y a n z. rounds_more v u u2 w t f mask head outside next args rs x y a n z
