-- A loop that counts down: its meaning, its spots, and the words of a small machine.
use Rattle.std.specs.Prelude.{ℕ, zero, suc, ◌+◌, ◌-◌, List, [], ◌∷◌, ◌++◌, Bool, true, false, Option, Some, None, slice_get}
use Rattle.run_laws.specs.Runs.{Outcome, Step, Moves, Ends, Traps, System}
use Rattle.run_laws.specs.Turns.{State, Ending, ◌>>=◌, give, fail, print, look, change, while_so, outcome}
use Rattle.countdown.specs.declared.Act.{Act}
use Rattle.countdown.specs.declared.Act.TheVariants.{Print, Down}
use Rattle.countdown.specs.declared.Countdown.{Countdown}
use Rattle.countdown.specs.declared.Word.{Word}
use Rattle.countdown.specs.declared.Word.TheVariants.{Load, JumpIfPositive, Halt, Write, TrapIfZero, Less, Jump}

-- the meaning's one trap
pub data Trap : Type 0 where
  BelowZero : Trap

-- the loop's test
abbrev pub is_positive : ℕ → Bool
is_positive zero = false
is_positive (suc n) = true

-- one less than n, or the trap
abbrev pub less_of : ℕ → State ℕ → Ending ℕ Trap (Unit {0})
less_of zero = fail BelowZero
less_of (suc n) = change (λ _. n)

-- acts, one after the other
abbrev pub acts : List Act → State ℕ → Ending ℕ Trap (Unit {0})
acts [] = give tt
acts (Print ∷ rest) = do
  n ← look (λ c. c)
  _ ← print n
  acts rest
acts (Down ∷ rest) = do
  n ← look (λ c. c)
  _ ← less_of n
  acts rest

-- the loop with n turns: a turn for each test
abbrev pub meaning : Countdown → ℕ → Outcome Trap
meaning p n = outcome (while_so n (look is_positive) (acts p.body.items) (record { store = p.start; out = []; turns = n }))

-- a spot in the loop: before it, at its test, behind it, or before the acts that are left of a round
pub data Spot : Type 0 where
  Begin : Spot
  Test : Spot
  Leave : Spot
  Body : List Act → Spot

-- a spot, and the counter there
pub record Node : Type 0 where
  pub spot : Spot
  pub counter : ℕ

-- what is done at a spot
abbrev pub go : Countdown → Spot → ℕ → Step Node Trap
go p Begin n = Moves [] (record { spot = Test; counter = p.start })
go p Test zero = Moves [] (record { spot = Leave; counter = 0 })
go p Test (suc n) = Moves [] (record { spot = Body p.body.items; counter = suc n })
go p Leave n = Ends
go p (Body []) n = Moves [] (record { spot = Test; counter = n })
go p (Body (Print ∷ rest)) n = Moves (n ∷ []) (record { spot = Body rest; counter = n })
go p (Body (Down ∷ rest)) zero = Traps BelowZero
go p (Body (Down ∷ rest)) (suc n) = Moves [] (record { spot = Body rest; counter = n })

-- the loop as a system, whose points are its spots
abbrev pub spots : Countdown → System Node Trap Spot
spots p = record { step = λ s. go p s.spot s.counter; at = λ s. s.spot }

-- what is left of a round, at each of its spots
abbrev pub body_spots : List Act → List Spot
body_spots [] = Body [] ∷ []
body_spots (a ∷ rest) = Body (a ∷ rest) ∷ body_spots rest

-- each spot once
abbrev pub all_spots : Countdown → List Spot
all_spots p = Begin ∷ Test ∷ Leave ∷ body_spots p.body.items

-- the jump back might have no word; each other spot has one or more
abbrev pub least : Spot → ℕ
least (Body []) = 0
least _ = 1

-- the words of acts
abbrev pub code_of : List Act → List Word
code_of [] = []
code_of (Print ∷ rest) = Write ∷ code_of rest
code_of (Down ∷ rest) = TrapIfZero ∷ Less ∷ code_of rest

-- the words of a loop: the counter, the test at place 1, the end, the body from place 3 on, and the jump back
abbrev pub words_of : Countdown → List Word
words_of p = Load p.start ∷ JumpIfPositive 3 ∷ Halt ∷ (code_of p.body.items ++ Jump 1 ∷ [])

-- why the machine stops early: a trap at a word, or no word at its place
pub data Stop : Type 0 where
  TrapAt : (place : ℕ) → Stop
  Undefined : Stop

-- the machine's state
pub record Machine : Type 0 where
  pub place : ℕ
  pub counter : ℕ

-- on to the next word
abbrev pub next : Machine → ℕ → Machine
next m n = record { place = m.place + 1; counter = n }

-- to the place where the counter isn't 0, else on
abbrev pub jump_of : ℕ → ℕ → Machine → Machine
jump_of zero to m = next m m.counter
jump_of (suc n) to m = record m { place = to }

-- the trap where the counter is 0, else on
abbrev pub trap_of : ℕ → Machine → Step Machine Stop
trap_of zero m = Traps (TrapAt m.place)
trap_of (suc n) m = Moves [] (next m m.counter)

-- one word
abbrev pub exec : Option Word → Machine → Step Machine Stop
exec None m = Traps Undefined
exec (Some (Load n)) m = Moves [] (next m n)
exec (Some (JumpIfPositive to)) m = Moves [] (jump_of m.counter to m)
exec (Some Halt) m = Ends
exec (Some Write) m = Moves (m.counter ∷ []) (next m m.counter)
exec (Some TrapIfZero) m = trap_of m.counter m
exec (Some Less) m = Moves [] (next m (m.counter - 1))
exec (Some (Jump to)) m = Moves [] (record m { place = to })

-- the machine with these words
abbrev pub machine : List Word → System Machine Stop ℕ
machine words = record { step = λ m. exec (slice_get words m.place) m; at = λ m. m.place }

-- where the machine begins
abbrev pub at_start : Machine
at_start = record { place = 0; counter = 0 }

-- the traps that are the same
abbrev pub SameTrap : Trap → Stop → Type 0
SameTrap BelowZero (TrapAt place) = Unit {0}
SameTrap BelowZero Undefined = ⊥
