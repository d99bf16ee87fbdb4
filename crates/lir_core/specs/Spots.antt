-- Where numbers stand while lines run.
use Rattle.std.specs.Prelude.{◌≡◌, ℕ, ◌<◌, ◌==◌, ◌||◌, Bool, true, false, cond, List, [], ◌∷◌, length, get_or, Option, Some, None}
use Rattle.block_runs.specs.Live.{has}
use Rattle.lir_core.specs.declared.places.Place.{Place}
use Rattle.lir_core.specs.declared.places.Place.TheVariants.{Reg, Home, Out}
use Rattle.lir_core.specs.declared.places.Move.{Move}
use Rattle.lir_core.specs.declared.places.Places.{Places}

-- an allocatable register, the home of a value, a slot for an argument of a call, X25, in which the address of a procedure
-- is called, and X16, in which a cycle's first number is saved
pub data Spot : Type 0 where
  reg : ℕ → Spot
  home : ℕ → Spot
  out : ℕ → Spot
  target : Spot
  saved : Spot

abbrev pub same : Spot → Spot → Bool
same (reg a) (reg b) = a == b
same (home a) (home b) = a == b
same (out a) (out b) = a == b
same target target = true
same saved saved = true
same _ _ = false

abbrev pub spot : Place → Spot
spot (Reg r) = reg r
spot (Home v) = home v
spot (Out s) = out s

abbrev pub is_home : Spot → Bool
is_home (home v) = true
is_home _ = false

-- a function of spots with x at d
abbrev pub put : {A : Type 0} → (Spot → A) → Spot → A → Spot → A
put c d x p = cond (same p d) x (c p)

-- where what stands at p after moves, all at once, stood before: the first move to p says so
abbrev pub source : List Move → Spot → Spot
source [] p = p
source (m ∷ ms) p = cond (same p (spot m.to)) (spot m.from) (source ms p)

---- Places

-- the value in a register
abbrev pub get : List (Option ℕ) → ℕ → Option ℕ
get regs r = get_or regs r None

-- which value places give to a spot
abbrev pub view_of : Places → Spot → Option ℕ
view_of q (reg r) = get q.regs r
view_of q (home v) = cond (has q.homed v) (Some v) None
view_of q (out s) = None
view_of q target = None
view_of q saved = None

abbrev pub in_register : List (Option ℕ) → ℕ → Bool
in_register [] v = false
in_register (None ∷ regs) v = in_register regs v
in_register (Some u ∷ regs) v = cond (u == v) true (in_register regs v)

-- a value has a register or a home
abbrev pub placed : Places → ℕ → Bool
placed q v = in_register q.regs v || has q.homed v

-- no value is in two registers
abbrev pub IsSingle : List (Option ℕ) → Type 0
IsSingle regs = (r s v : ℕ) → get regs r ≡ Some v → get regs s ≡ Some v → r ≡ s

-- the numbers rise
abbrev pub IsRising : List ℕ → Type 0
IsRising [] = Unit {0}
IsRising (x ∷ []) = Unit {0}
IsRising (x ∷ (y ∷ ys)) = (x < y) × IsRising (y ∷ ys)

-- places of k registers
pub record IsRow (k : ℕ) (q : Places) : Type 0 where
  pub registers : length q.regs ≡ k
  pub single : IsSingle q.regs

-- places hold: each spot to which they give a value contains that value's number
abbrev pub Holds : (ℕ → ℕ) → (Spot → Option ℕ) → (Spot → ℕ) → Type 0
Holds values view content = (p : Spot) (v : ℕ) → view p ≡ Some v → content p ≡ values v

---- Edges

-- what a value behind an edge was before: a parameter its argument, any other value itself
abbrev pub argument_of : List ℕ → List ℕ → ℕ → ℕ
argument_of [] args v = v
argument_of (p ∷ ps) [] v = v
argument_of (p ∷ ps) (a ∷ args) v = cond (v == p) a (argument_of ps args v)

-- contents that come from other spots take places that hold before an edge to places that hold behind it
abbrev pub TakesOver : Places → Places → (ℕ → ℕ) → (Spot → Spot) → Type 0
TakesOver before after argument from = (values : ℕ → ℕ) (content : Spot → ℕ) → Holds values (view_of before) content → Holds (λ v. values (argument v)) (view_of after) (λ p. content (from p))
