-- Stores in which cells have what their kinds say.
use Rattle.std.specs.Prelude.{◌≡◌, ℕ, Some}
use Rattle.object_bytes.specs.Layouts.{Spot, Form, Part, Kind, Numbers, Pointers, Routines, Tags}
use Rattle.object_bytes.specs.Objects.{Cell, Number, Pointer, Routine, Tag, Objects, Placing}

module _ (records : ℕ → Form) where
  -- a pointer to a record type is 0, which is NIL, or names an object that has the record behind its tag, or that and more
  abbrev pub Suits : Objects → Kind → Cell → Type 0
  Suits o Numbers (Number n) = Unit {0}
  Suits o Numbers (Pointer k) = ⊥
  Suits o Numbers (Routine f) = ⊥
  Suits o Numbers (Tag n) = ⊥
  Suits o (Pointers t) (Number n) = n ≡ 0
  Suits o (Pointers t) (Pointer k) = Part (o.form k) 1 8 (records t)
  Suits o (Pointers t) (Routine f) = ⊥
  Suits o (Pointers t) (Tag n) = ⊥
  Suits o Routines (Number n) = n ≡ 0
  Suits o Routines (Routine f) = Unit {0}
  Suits o Routines (Pointer k) = ⊥
  Suits o Routines (Tag n) = ⊥
  Suits o Tags (Number n) = Unit {0}
  Suits o Tags (Tag n) = Unit {0}
  Suits o Tags (Pointer k) = ⊥
  Suits o Tags (Routine f) = ⊥

  -- of all cells of live objects
  pub record Typed (o : Objects) (p : Placing) : Type 0 where
    pub at : (k a c : ℕ) (s : Spot) → p.place k ≡ Some a → (o.form k).spot c ≡ Some s → Suits o s.kind (o.cell k c)
