use Rattle.std.proofs.Common.{◌≡◌, ◌≤◌, ℕ, length}
use Rattle.run_laws.specs.Turns.{State}
use Rattle.ob_types.specs.Store.{Store, Here}
use Rattle.ob_types.specs.Expressions.{Calls}
use Rattle.ob_types.specs.declared.program.Program.{Program}
use Rattle.eval_at_once.specs.Lists.{type_parts_by}
use Rattle.eval_tasks.specs.Weights.{all_type_parts}
use Rattle.ob_eval.proofs.branches.type_part.Given as goal

abbrev pub invariant-parts : goal.invariant-parts
invariant-parts l = ((p : Program) (calls : Calls) (here : Here) (fuel : ℕ) (s : State Store) → p.types ≡ l.types → type_parts_by p calls here fuel l.found l.fn.parts s ≡ type_parts_by p calls here fuel l.found l.rest s) × (all_type_parts l.rest ≤ all_type_parts l.fn.parts)

abbrev pub decreases-parts : goal.decreases-parts
decreases-parts l = length l.rest
