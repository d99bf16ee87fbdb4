-- What holds of a table of types: each entry means what its number means, and each type has one number.
use Rattle.std.specs.Prelude.{◌≡◌, ℕ, List, Bool, true, false, ◌&&◌, ◌||◌, nat_eq, slice_index_or}
use Rattle.ob_types.specs.Table.{Table}
use Rattle.ob_types.specs.declared.types.Formal.{Formal}
use Rattle.ob_judge.specs.Shapes.{Shape, Char, Nil, Text, Pointer, Procedure, Known, same, bool_eq, extends, is_number}
use Rattle.ob_judge.specs.Parts.{is_nothing}
use Rattle.judged_tree.specs.TypeShapes.{shape_at, shape_of}
use Rattle.check_types.specs.declared.types.TypeRef.{TypeRef}
use Rattle.check_types.specs.declared.types.TypeRef.TheVariants as TheType
use Rattle.check_types.specs.TypeMeaning.{type_shape}

-- an entry by its number
abbrev pub entry_at : List TypeRef → ℕ → TypeRef
entry_at entries n = slice_index_or entries n TheType.Nothing

abbrev pub is_nil : Shape → Bool
is_nil Nil = true
is_nil s = false

-- the same number; what no procedure gives may have several
abbrev pub is_one : Table → ℕ → ℕ → Bool
is_one t a b = nat_eq a b || is_nothing (shape_of t a) && is_nothing (shape_of t b)

abbrev pub IsMeant : Table → List TypeRef → Type 0
IsMeant t entries = (n : ℕ) → same (shape_of t n) (type_shape t (entry_at entries n)) ≡ true

abbrev pub IsApart : Table → Type 0
IsApart t = (a b : ℕ) → same (shape_of t a) (shape_of t b) ≡ is_one t a b

-- two parameters of the same kind and type
abbrev pub same_formal_shape : List Shape → Formal → Formal → Bool
same_formal_shape shapes x y = bool_eq x.variable y.variable && same (shape_at shapes x.type_number) (shape_at shapes y.type_number)

-- may be assigned as what is the same, as an extension, or as a number
abbrev pub assignable_plain : Known → Shape → Shape → Bool
assignable_plain known to from = same to from || extends known from to || is_number to && is_number from

-- what may be assigned to a type that is no array
abbrev pub scalar_store : Known → Shape → Shape → Bool
scalar_store known Char (Text n) = nat_eq n 1
scalar_store known (Pointer n) Nil = true
scalar_store known (Procedure ps r) Nil = true
scalar_store known to from = assignable_plain known to from
