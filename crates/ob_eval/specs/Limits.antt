-- What FOR keeps through its rounds, and what its steps take.
use Rattle.std.specs.Prelude.{◌≡◌, ℕ, List, ◌∷◌, Result, Ok, Err}
use Rattle.run_laws.specs.Turns.{Fails}
use Rattle.ob_types.specs.Store.{Bits, Senseless, Address, Handed, At, Value}
use Rattle.ob_types.specs.Statements.{Deed}
use Rattle.eval_store.specs.Areas.{address_of}
use Rattle.eval_store.specs.declared.stop.Stop.{Stop}
use Rattle.eval_store.specs.declared.stop.Stop.TheVariants.{NoSense}
use Rattle.eval_tasks.specs.Tasks.{limited}
use Rattle.ob_eval.specs.declared.loops.Limit.{Limit}
use Rattle.ob_eval.specs.declared.machine.Machine.{Machine}

-- a limit and an address, which stand last
abbrev pub with_limit : Limit → Machine → Machine
with_limit w m = record m { values = Value (Bits w.value) ∷ At (address_of w.variable) ∷ m.values }

-- they were taken
abbrev pub TookLimit : Machine → Result Limit Stop → Machine → Type 0
TookLimit old (Ok w) new = old ≡ with_limit w new
TookLimit old (Err stop) new = (stop ≡ NoSense) × ((go : ℕ → Address → List Handed → Deed) → limited old.values go old.world ≡ Fails Senseless new.world.out)
