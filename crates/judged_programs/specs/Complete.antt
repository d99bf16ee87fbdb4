-- Types of which all cells are known: those that hold only record types whose END was judged.
use Rattle.std.specs.Prelude.{◌≡◌, ℕ, List, [], true, Option, Some, None, slice_get}
use Rattle.ob_judge.specs.Shapes.{Shape, Array, Record, Layout}
use Rattle.judged_well.specs.Standing.{is_whole}

-- the record type that a type is, or that its elements are of
abbrev pub core : Shape → Option ℕ
core (Array n a) = core a
core (Record r) = Some r
core a = None

-- a record type whose END was judged
pub record IsComplete (records : List Layout) (r : ℕ) : Type 0 where
  pub layout : Layout
  pub there : slice_get records r ≡ Some layout
  pub ended : layout.line ≡ [] → ⊥

-- what a type has by value is complete
abbrev pub HasCore : List Layout → Shape → Type 0
HasCore records a = (r : ℕ) → core a ≡ Some r → IsComplete records r

-- a type that variables may have, of which all cells are known
pub record IsKnown (records : List Layout) (a : Shape) : Type 0 where
  pub whole : is_whole a ≡ true
  pub core_there : HasCore records a

-- complete record types stay
abbrev pub CompleteStay : List Layout → List Layout → Type 0
CompleteStay records more = (r : ℕ) → IsComplete records r → slice_get more r ≡ slice_get records r
