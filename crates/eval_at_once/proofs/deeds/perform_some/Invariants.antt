use Rattle.std.proofs.Common.{◌≡◌, List, ◌++◌, length}
use Rattle.ob_types.specs.Meaning.{effects_of, at_most}
use Rattle.ob_types.specs.declared.statements.Stmt.{Stmt}
use Rattle.eval_at_once.specs.Here.{here_of}
use Rattle.eval_at_once.proofs.deeds.perform_some.Given as goal

abbrev pub invariant-statements : goal.invariant-statements
invariant-statements l = (effects_of l.laid (at_most l.laid l.active.fuel) (here_of l.active) l.active.fuel l.fn.all l.fn.world ≡ effects_of l.laid (at_most l.laid l.active.fuel) (here_of l.active) l.active.fuel l.rest l.world) × ((front : List Stmt) × (l.fn.all ≡ front ++ l.rest)) × (l.world.turns ≡ l.fn.world.turns)

abbrev pub decreases-statements : goal.decreases-statements
decreases-statements l = length l.rest
