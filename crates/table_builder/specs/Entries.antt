-- Entries of a table of types, by their numbers.
use Rattle.std.specs.Prelude.{◌≡◌, ◌<◌, ℕ, List, [], ◌∷◌, Bool, true, false, Option, Some, None, length, slice_get}
use Rattle.ob_types.specs.declared.types.Signature.{Signature}
use Rattle.ob_types.specs.Table.{Table}
use Rattle.ob_judge.specs.Shapes.{Shape, Open, Nil, Nothing, Text}
use Rattle.judged_tree.specs.TypeShapes.{shape_of}
use Rattle.judged_tree.specs.Tables.{is_before}
use Rattle.check_types.specs.declared.types.TypeRef.{TypeRef}
use Rattle.check_types.specs.declared.types.TypeRef.TheVariants as TheType

-- a type has a number
abbrev pub IsNumbered : List TypeRef → TypeRef → Type 0
IsNumbered entries of = (n : ℕ) × (slice_get entries n ≡ Some of)

-- a type that variables may have: no open array, and neither NIL's type, nor a string's, nor none
abbrev pub is_whole : TypeRef → Bool
is_whole (TheType.Open e) = false
is_whole TheType.Nil = false
is_whole TheType.Nothing = false
is_whole (TheType.Text n) = false
is_whole of = true

-- one that has a number
pub record IsElement (entries : List TypeRef) (of : TypeRef) : Type 0 where
  pub numbered : IsNumbered entries of
  pub whole : is_whole of ≡ true

-- the number of an array's element type
abbrev pub element_in : TypeRef → Option ℕ
element_in (TheType.Array n e) = Some e
element_in (TheType.Open e) = Some e
element_in of = None

-- if this is an array, then of elements of a type that variables may have
abbrev pub HasWholeElements : List TypeRef → TypeRef → Type 0
HasWholeElements entries of = (a : ℕ) (e : TypeRef) → element_in of ≡ Some a → slice_get entries a ≡ Some e → is_whole e ≡ true

-- what an entry at this number is made of stands before it
abbrev pub HasParts : List Signature → ℕ → TypeRef → Type 0
HasParts signatures k (TheType.Array n e) = e < k
HasParts signatures k (TheType.Open e) = e < k
HasParts signatures k (TheType.Procedure g) = is_before k (slice_get signatures g)
HasParts signatures k of = Unit {0}

-- the pointer types among these, in order
abbrev pub pointers_of : List TypeRef → List ℕ
pointers_of [] = []
pointers_of (TheType.Pointer p ∷ es) = p ∷ pointers_of es
pointers_of (e ∷ es) = pointers_of es

-- the same of a shape
abbrev pub is_whole_shape : Shape → Bool
is_whole_shape (Open s) = false
is_whole_shape Nil = false
is_whole_shape Nothing = false
is_whole_shape (Text n) = false
is_whole_shape s = true

-- a type of the table has this shape
pub record HasShape (t : Table) (s : Shape) : Type 0 where
  pub number : ℕ
  pub there : number < length t.kinds
  pub same : shape_of t number ≡ s
