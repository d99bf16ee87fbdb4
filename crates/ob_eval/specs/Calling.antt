-- How a call begins and ends.
use Rattle.std.specs.Prelude.{◌≡◌, ℕ, ◌+◌, ◌-◌, List, ◌∷◌, ◌++◌, length, replicate, Bool, true, false, nat_lt, nat_le, Result, Ok, Err, Option, Some, None, Vec}
use Rattle.std.specs.Global.{Global}
use Rattle.run_laws.specs.Turns.{◌>>=◌, give, look}
use Rattle.ob_types.specs.Layout.{cells_of_all}
use Rattle.ob_types.specs.Store.{Cell, Bits, Act, given, Handed, unless, spend_all}
use Rattle.ob_types.specs.Meaning.{procedure_of, received, receives, zeroed, cells_in, at_most}
use Rattle.ob_types.specs.declared.types.Mode.{Mode}
use Rattle.ob_types.specs.declared.statements.Checked.{Checked}
use Rattle.ob_types.specs.declared.program.Program.{Program}
use Rattle.eval_store.specs.declared.stop.Stop.{Stop}
use Rattle.eval_store.specs.declared.stop.Stop.TheVariants.{NoSense, NoMemory}
use Rattle.eval_at_once.specs.declared.active.Active.{Active}
use Rattle.eval_tasks.specs.Tasks.{Next, results, evaluates, performs_all, acts, returns}
use Rattle.eval_tasks.specs.declared.task.Act.TheVariants.{Drop, Nothing}

-- an argument, handed over as its parameter wants: a cell where it is a value
abbrev pub Receives : Mode → Handed → Result (Option Cell) Stop → Type 0
Receives mode h (Ok (Some c)) = (cs : List Cell) → receives mode h (Some cs) ≡ Some (c ∷ cs)
Receives mode h (Ok None) = (cs : List Cell) → receives mode h (Some cs) ≡ Some cs
Receives mode h (Err stop) = (stop ≡ NoSense) × ((o : Option (List Cell)) → receives mode h o ≡ None)

-- cells before those that other arguments give
abbrev pub behind : List Cell → Option (List Cell) → Option (List Cell)
behind cells None = None
behind cells (Some more) = Some (cells ++ more)

-- an argument was received behind some cells
abbrev pub ReceivedOne : Mode → Handed → List Cell → Result (Unit {0}) Stop → List Cell → Type 0
ReceivedOne mode h old (Ok u) new = (o : Option (List Cell)) → behind old (receives mode h o) ≡ behind new o
ReceivedOne mode h old (Err NoSense) new = (o : Option (List Cell)) → receives mode h o ≡ None
ReceivedOne mode h old (Err NoMemory) new = Unit {0}
ReceivedOne mode h old (Err stop) new = ⊥

-- the cells of all arguments that are values
abbrev pub Received : Option (List Cell) → Result (Vec Cell Global) Stop → Type 0
Received o (Ok v) = o ≡ Some v.items
Received o (Err NoSense) = o ≡ None
Received o (Err NoMemory) = Unit {0}
Received o (Err stop) = ⊥

-- a call's object: its arguments, traps 8 and 9, a turn for each cell of its structured variables
abbrev pub prepared : Program → ℕ → List Handed → Act (List Cell)
prepared p g hs = do
  values ← given (received (procedure_of p g).formals hs)
  frames ← look (λ s. s.frames)
  _ ← unless g 8 (nat_lt (length frames) 8192)
  _ ← unless g 9 (nat_le (cells_in frames + (length values + cells_of_all p.types (procedure_of p g).locals)) 1048576)
  _ ← spend_all (zeroed p (procedure_of p g))
  give (values ++ replicate (cells_of_all p.types (procedure_of p g).locals) (Bits 0))

-- a call with these arguments
abbrev pub calls_with : Program → ℕ → List Handed → Bool → Next → Next
calls_with p g hs wanted k x vs = at_most p x.fuel g hs >>= results wanted k x vs

-- what is left behind a body: the result, and the return to this call
abbrev pub answers : Program → Active → Option Checked → Bool → Next → Next
answers p old (Some e) true k = evaluates p e.form (returns p old true k)
answers p old (Some e) false k = evaluates p e.form (acts p Drop (returns p old false k))
answers p old None true k = returns p old false (acts p Nothing k)
answers p old None false k = returns p old false k

-- the body of a call that has its object, and what is behind it
abbrev pub enters : Program → ℕ → List Handed → ℕ → Bool → Next → Next
enters p g hs frame wanted k x vs =
    performs_all p (procedure_of p g).body (answers p x (procedure_of p g).answer wanted k) (record { fuel = x.fuel - 1; procedure = g; frame = frame; arguments = hs }) vs
