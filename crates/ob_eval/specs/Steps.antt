-- What is left of the meaning before and behind a step, and that it falls.
use Rattle.std.specs.Prelude.{◌≡◌, ◌+◌, ◌<◌, ◌≤◌, ℕ, List, ◌∷◌, Bool, true, false, Result, Ok, Err}
use Rattle.run_laws.specs.Turns.{Ending, Gives, Fails, ◌>>=◌}
use Rattle.ob_types.specs.Store.{Cell, Bits, Store, Trap, Senseless, Handed, Value, bits_in}
use Rattle.ob_types.specs.Statements.{Deed}
use Rattle.ob_types.specs.declared.program.Program.{Program}
use Rattle.eval_store.specs.Did.{Stopped}
use Rattle.eval_store.specs.declared.stop.Stop.{Stop}
use Rattle.eval_store.specs.declared.stop.Stop.TheVariants.{NoSense}
use Rattle.eval_tasks.specs.Tasks.{Next, rest, popped, taken}
use Rattle.eval_tasks.specs.Weights.{weights}
use Rattle.ob_eval.specs.declared.machine.Machine.{Machine}

-- what the tasks of a machine do from where it stands
abbrev pub left : Program → Machine → Ending Store Trap (Unit {0})
left p m = rest p m.tasks m.active m.values m.world

-- what this does there, with the tasks of a machine behind it
abbrev pub before : Program → (Next → Next) → Machine → Ending Store Trap (Unit {0})
before p first m = first (rest p m.tasks) m.active m.values m.world

-- the same is left, or it stopped
abbrev pub Went : Program → Ending Store Trap (Unit {0}) → Result (Unit {0}) Stop → Machine → Type 0
Went p e (Ok u) m = left p m ≡ e
Went p e (Err stop) m = Stopped e stop m.world.out

-- a task of this weight was done: turns were spent, or what is left is lighter
abbrev pub Falls : ℕ → Machine → Result (Unit {0}) Stop → Machine → Type 0
Falls w old (Ok u) new = (new.world.turns ≤ old.world.turns) × (old.world.turns ≤ new.world.turns → weights new.tasks < w + weights old.tasks)
Falls w old (Err stop) new = Unit {0}

-- the last value was taken
abbrev pub TookCell : Machine → Result Cell Stop → Machine → Type 0
TookCell old (Ok c) new = old ≡ record new { values = Value c ∷ new.values }
TookCell old (Err stop) new = (stop ≡ NoSense) × ((go : Cell → List Handed → Deed) → popped old.values go old.world ≡ Fails Senseless new.world.out)

-- the last value, a number, was taken
abbrev pub TookNumber : Machine → Result ℕ Stop → Machine → Type 0
TookNumber old (Ok n) new = old ≡ record new { values = Value (Bits n) ∷ new.values }
TookNumber old (Err stop) new = (stop ≡ NoSense) × ((go : ℕ → List Handed → Deed) → popped old.values (λ c rest. bits_in c >>= λ n. go n rest) old.world ≡ Fails Senseless new.world.out)

-- the last that was handed over was taken
abbrev pub Took : Machine → Result Handed Stop → Machine → Type 0
Took old (Ok h) new = old ≡ record new { values = h ∷ new.values }
Took old (Err stop) new = (stop ≡ NoSense) × ((go : Handed → List Handed → Deed) → taken old.values go old.world ≡ Fails Senseless new.world.out)

-- some steps were done: all that was left, or some of it, or they stopped
abbrev pub Ran : Program → Ending Store Trap (Unit {0}) → Result Bool Stop → Machine → Type 0
Ran p e (Ok true) m = e ≡ Gives tt m.world
Ran p e (Ok false) m = e ≡ left p m
Ran p e (Err stop) m = Stopped e stop m.world.out

-- a turn was spent where something is left
abbrev pub Spends : Machine → Result Bool Stop → Machine → Type 0
Spends old (Ok false) new = new.world.turns < old.world.turns
Spends old _ new = Unit {0}

-- one more value, a number
abbrev pub with_number : ℕ → Machine → Machine
with_number a m = record m { values = Value (Bits a) ∷ m.values }

-- one more that is handed over
abbrev pub with_handed : Handed → Machine → Machine
with_handed h m = record m { values = h ∷ m.values }
