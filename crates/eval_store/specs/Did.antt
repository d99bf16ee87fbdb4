-- What a part of the code did, beside what a part of the meaning does.
use Rattle.std.specs.Prelude.{◌≡◌, ℕ, List, Option, Result, Ok, Err, Some, None}
use Rattle.run_laws.specs.Turns.{State, Ending, Gives, Fails, Spent}
use Rattle.ob_types.specs.Store.{Store, Trap, Kind, Senseless, Cell, Span, cell_of, cell_put}
use Rattle.eval_store.specs.Handing.{span_of}
use Rattle.eval_store.specs.declared.handed.Span.{Span as SpanForm}
use Rattle.eval_store.specs.declared.stop.Stop.{Stop}
use Rattle.eval_store.specs.declared.stop.Stop.TheVariants.{Trapped, TurnsSpent, NoSense, NoMemory}

-- why it stopped, with what was written; want of memory says nothing
abbrev pub Stopped : {A : Type 0} → Ending Store Trap A → Stop → List ℕ → Type 0
Stopped e (Trapped kind f) out = e ≡ Fails (Kind kind f) out
Stopped e TurnsSpent out = e ≡ Spent out
Stopped e NoSense out = e ≡ Fails Senseless out
Stopped e NoMemory out = Unit {0}

-- it gave a value and left a state, or stopped
abbrev pub Did : {A : Type 0} → Ending Store Trap A → Result A Stop → State Store → Type 0
Did e (Ok a) s = e ≡ Gives a s
Did e (Err stop) s = Stopped e stop s.out

-- the same of an array's address and length
abbrev pub DidSpan : Ending Store Trap Span → Result SpanForm Stop → State Store → Type 0
DidSpan e (Ok a) s = e ≡ Gives (span_of a) s
DidSpan e (Err stop) s = Stopped e stop s.out

-- it gave a value and changed nothing, or stopped, or was left undone
abbrev pub AtOnce : {A : Type 0} → Ending Store Trap A → Result (Option A) Stop → State Store → Type 0
AtOnce e (Ok (Some a)) s = e ≡ Gives a s
AtOnce e (Ok None) s = Unit {0}
AtOnce e (Err stop) s = Stopped e stop s.out

-- a cell got a value, where it is there
abbrev pub Wrote : List (List Cell) → ℕ → ℕ → Cell → Result (Unit {0}) Stop → List (List Cell) → Type 0
Wrote old object at c (Ok u) new = ((was : Cell) × (cell_of old object at ≡ Some was)) × (new ≡ cell_put old object at c)
Wrote old object at c (Err stop) new = (cell_of old object at ≡ None) × (new ≡ old) × (stop ≡ NoSense)

-- a part of a meaning makes sense
abbrev pub Sensible : {A : Type 0} → Ending Store Trap A → Type 0
Sensible (Gives a s) = Unit {0}
Sensible (Fails (Kind kind f) out) = Unit {0}
Sensible (Fails Senseless out) = ⊥
Sensible (Spent out) = Unit {0}
