-- The bodies of all modules, as tasks.
use Rattle.std.specs.Prelude.{◌≡◌, ℕ, List, []}
use Rattle.run_laws.specs.Turns.{State, ◌>>=◌}
use Rattle.ob_types.specs.Store.{Store, Handed}
use Rattle.ob_types.specs.Meaning.{bodies, effects_of, at_most, procedure_of}
use Rattle.ob_types.specs.declared.program.Module.{Module}
use Rattle.ob_types.specs.declared.program.Program.{Program}
use Rattle.eval_at_once.specs.declared.active.Active.{Active}
use Rattle.eval_tasks.specs.Tasks.{Next, rest}
use Rattle.eval_tasks.specs.declared.task.Task.{Task}
use Rattle.ob_types.specs.Statements.{Deed}

-- a module's body runs, without an object and arguments
abbrev pub active_of : ℕ → ℕ → Active
active_of n g = record { fuel = n; procedure = g; frame = 0; arguments = [] }

-- a module's body, before what follows
abbrev pub body_before : Program → ℕ → ℕ → Next → List Handed → Deed
body_before p n g k vs = effects_of p (at_most p n) (record { procedure = g; frame = 0; arguments = [] }) n (procedure_of p g).body >>= λ _. k (active_of n g) vs

-- in whatever call they are begun, tasks do what the bodies of these modules do
abbrev pub DoBodies : Program → ℕ → List Task → List Module → Type 0
DoBodies p n tasks ms = (x : Active) (vs : List Handed) (s : State Store) → rest p tasks x vs s ≡ bodies p n ms s
