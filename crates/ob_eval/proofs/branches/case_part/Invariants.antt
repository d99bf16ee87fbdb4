use Rattle.std.proofs.Common.{◌≡◌, ◌≤◌, ℕ, length}
use Rattle.run_laws.specs.Turns.{State}
use Rattle.ob_types.specs.Store.{Store, Here}
use Rattle.ob_types.specs.Expressions.{Calls}
use Rattle.ob_types.specs.declared.program.Program.{Program}
use Rattle.eval_at_once.specs.Lists.{case_parts_by}
use Rattle.eval_tasks.specs.Weights.{all_case_parts}
use Rattle.ob_eval.proofs.branches.case_part.Given as goal

abbrev pub invariant-parts : goal.invariant-parts
invariant-parts l = ((p : Program) (calls : Calls) (here : Here) (fuel : ℕ) (s : State Store) → case_parts_by p calls here fuel l.v l.fn.parts s ≡ case_parts_by p calls here fuel l.v l.rest s) × (all_case_parts l.rest ≤ all_case_parts l.fn.parts)

abbrev pub decreases-parts : goal.decreases-parts
decreases-parts l = length l.rest
