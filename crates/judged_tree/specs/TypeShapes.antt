-- What the numbers in a table of types mean: the shapes that the judgement speaks of.
use Rattle.std.specs.Prelude.{ℕ, suc, List, [], ◌∷◌, ◌++◌, Option, Some, None, slice_get, slice_index_or}
use Rattle.ob_types.specs.declared.types.TypeKind.{TypeKind}
use Rattle.ob_types.specs.declared.types.TypeKind.TheVariants as TheKind
use Rattle.ob_types.specs.declared.types.Formal.{Formal as FormalOf}
use Rattle.ob_types.specs.declared.types.Signature.{Signature}
use Rattle.ob_types.specs.Table.{Table}
use Rattle.ob_judge.specs.Shapes.{Shape, Integer, Boolean, Char, Byte, Set, Nil, Nothing, Text, Array, Open, Record, Pointer, Procedure, Formals, none, one}

-- the shape of a number among these
abbrev pub shape_at : List Shape → ℕ → Shape
shape_at shapes k = slice_index_or shapes k Nothing

abbrev pub array_shape : Option ℕ → Shape → Shape
array_shape (Some n) s = Array n s
array_shape None s = Open s

-- the parameters of a procedure type
abbrev pub formals_shape : List Shape → List FormalOf → Formals
formals_shape shapes [] = none
formals_shape shapes (x ∷ xs) = one x.variable (shape_at shapes x.type_number) (formals_shape shapes xs)

-- the parameters and the result of a procedure type by its signature. Where there is no signature the result is NIL's
-- type, which no procedure has
abbrev pub formals_in : List Shape → Option Signature → Formals
formals_in shapes None = none
formals_in shapes (Some g) = formals_shape shapes g.formals

abbrev pub result_in : List Shape → Option Signature → Shape
result_in shapes None = Nil
result_in shapes (Some g) = shape_at shapes g.result

abbrev pub signature_shape : List Shape → Option Signature → Shape
signature_shape shapes o = Procedure (formals_in shapes o) (result_in shapes o)

module _ (t : Table) where
  -- the shape of a kind, where numbers have these shapes and a pointer type this number among pointer types
  abbrev pub kind_shape : List Shape → (pointer : ℕ) → TypeKind → Shape
  kind_shape shapes pointer TheKind.Int = Integer
  kind_shape shapes pointer TheKind.Bool = Boolean
  kind_shape shapes pointer TheKind.Char = Char
  kind_shape shapes pointer TheKind.Byte = Byte
  kind_shape shapes pointer TheKind.Set = Set
  kind_shape shapes pointer TheKind.Nil = Nil
  kind_shape shapes pointer (TheKind.Text n) = Text n
  kind_shape shapes pointer (TheKind.Array n e) = array_shape n (shape_at shapes e)
  kind_shape shapes pointer (TheKind.Record r) = Record r
  kind_shape shapes pointer (TheKind.Pointer r) = Pointer pointer
  kind_shape shapes pointer (TheKind.Procedure g) = signature_shape shapes (slice_get t.signatures g)
  kind_shape shapes pointer TheKind.Nothing = Nothing

  abbrev pub next_pointer : TypeKind → ℕ → ℕ
  next_pointer (TheKind.Pointer r) n = suc n
  next_pointer k n = n

  -- behind these shapes, entry by entry from the front: an entry names earlier ones, but for what a pointer points to
  abbrev pub shapes_after : List Shape → (pointer : ℕ) → List TypeKind → List Shape
  shapes_after shapes pointer [] = shapes
  shapes_after shapes pointer (k ∷ ks) = shapes_after (shapes ++ kind_shape shapes pointer k ∷ []) (next_pointer k pointer) ks

  -- what the table means
  abbrev pub shapes_of : List Shape
  shapes_of = shapes_after [] 0 t.kinds

  -- the shape of a type
  abbrev pub shape_of : ℕ → Shape
  shape_of k = shape_at shapes_of k

  -- the shape of a kind beside a tree. Of a pointer type a kind says the record type that it points to, not which of
  -- the pointer types to it this is: so does the shape here
  abbrev pub shape_of_kind : TypeKind → Shape
  shape_of_kind (TheKind.Pointer r) = Pointer r
  shape_of_kind k = kind_shape shapes_of 0 k

-- of each pointer type the record type that it points to
abbrev pub pointer_bases : List TypeKind → List (Option ℕ)
pointer_bases [] = []
pointer_bases (TheKind.Pointer r ∷ ks) = Some r ∷ pointer_bases ks
pointer_bases (k ∷ ks) = pointer_bases ks
