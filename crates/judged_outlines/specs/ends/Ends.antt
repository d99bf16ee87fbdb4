-- What holds where a module ends.
use Rattle.std.specs.Prelude.{◌≡◌, ◌<◌, ℕ, List, Option, Some, None, slice_get}
use Rattle.ob_judge.specs.Shapes.{Shape, Integer, Boolean, Char, Set, Nil}
use Rattle.ob_judge.specs.Image.{Constant, Bits, Chars, Entity, OfConstant, Declared}
use Rattle.ob_judge.specs.Scopes.{Object, AConstant, Entry, KnownModule}
use Rattle.ob_judge.specs.Modules.{SoFar}
use Rattle.judged_modules.specs.Lists.{Each}

-- each pointer type points to a record type
pub record AllPoint (bases : List (Option ℕ)) : Type 0 where
  pub each : (n : ℕ) → slice_get bases n ≡ Some None → ⊥

-- a number is a value of this type, of which constants may be
abbrev pub IsValueOf : Shape → ℕ → Type 0
IsValueOf Integer n = Unit {0}
IsValueOf Boolean n = n < 2
IsValueOf Char n = n < 256
IsValueOf Set n = Unit {0}
IsValueOf Nil n = n ≡ 0
IsValueOf s n = ⊥

-- a constant has a value of its type
abbrev pub IsInRange : Constant → Type 0
IsInRange (Bits s n) = IsValueOf s n
IsInRange (Chars cs) = Unit {0}

-- and so has one that a name stands for
abbrev pub ObjectInRange : Object → Type 0
ObjectInRange (AConstant c) = IsInRange c
ObjectInRange o = Unit {0}

abbrev pub NamesInRange : (List ℕ → Option Entry) → Type 0
NamesInRange names = (q : List ℕ) (x : Entry) → names q ≡ Some x → ObjectInRange x.object

-- or that a module offers
abbrev pub EntityInRange : Entity → Type 0
EntityInRange (OfConstant c) = IsInRange c
EntityInRange e = Unit {0}

abbrev pub OffersInRange : List Declared → Type 0
OffersInRange ds = Each (λ d. EntityInRange d.entity) ds

-- the modules so far: their pointer types point to record types, and their constants have values of their types
pub record EndsWell (c : SoFar) : Type 0 where
  pub points : AllPoint c.known.bases
  pub constants : (n : ℕ) (m : KnownModule) → slice_get c.modules n ≡ Some m → NamesInRange m.names
