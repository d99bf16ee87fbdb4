-- What a type of the checker means: its shape; and its kind in a checked tree.
use Rattle.std.specs.Prelude.{ℕ, List, Option, Some, None, slice_get}
use Rattle.ob_types.specs.Table.{Table}
use Rattle.ob_types.specs.declared.types.TypeKind.{TypeKind}
use Rattle.ob_types.specs.declared.types.TypeKind.TheVariants as TheKind
use Rattle.ob_judge.specs.Shapes.{Shape, Integer, Boolean, Char, Byte, Set, Nil, Nothing, Text, Array, Open, Record, Pointer, Procedure, Formals}
use Rattle.judged_tree.specs.TypeShapes.{shape_of, shapes_of, formals_in, result_in}
use Rattle.judged_tree.specs.Outline.{record_or_zero}
use Rattle.check_types.specs.declared.types.TypeRef.{TypeRef}
use Rattle.check_types.specs.declared.types.TypeRef.TheVariants as TheType

-- the parameters of a signature, and its result; where there is no such signature the result is NIL's type
abbrev pub formals_of : Table → ℕ → Formals
formals_of t g = formals_in (shapes_of t) (slice_get t.signatures g)

abbrev pub result_of : Table → ℕ → Shape
result_of t g = result_in (shapes_of t) (slice_get t.signatures g)

-- a result by its number
abbrev pub result_shape : Table → Option ℕ → Shape
result_shape t None = Nil
result_shape t (Some k) = shape_of t k

abbrev pub type_shape : Table → TypeRef → Shape
type_shape t TheType.Int = Integer
type_shape t TheType.Bool = Boolean
type_shape t TheType.Char = Char
type_shape t TheType.Byte = Byte
type_shape t TheType.Set = Set
type_shape t TheType.Nil = Nil
type_shape t TheType.Nothing = Nothing
type_shape t (TheType.Text n) = Text n
type_shape t (TheType.Array n e) = Array n (shape_of t e)
type_shape t (TheType.Open e) = Open (shape_of t e)
type_shape t (TheType.Record r) = Record r
type_shape t (TheType.Pointer p) = Pointer p
type_shape t (TheType.Procedure g) = Procedure (formals_of t g) (result_of t g)

-- beside a checked tree, where pointer types point to these record types
abbrev pub kind_of_type : List (Option ℕ) → TypeRef → TypeKind
kind_of_type bases TheType.Int = TheKind.Int
kind_of_type bases TheType.Bool = TheKind.Bool
kind_of_type bases TheType.Char = TheKind.Char
kind_of_type bases TheType.Byte = TheKind.Byte
kind_of_type bases TheType.Set = TheKind.Set
kind_of_type bases TheType.Nil = TheKind.Nil
kind_of_type bases TheType.Nothing = TheKind.Nothing
kind_of_type bases (TheType.Text n) = TheKind.Text n
kind_of_type bases (TheType.Array n e) = TheKind.Array (Some n) e
kind_of_type bases (TheType.Open e) = TheKind.Array None e
kind_of_type bases (TheType.Record r) = TheKind.Record r
kind_of_type bases (TheType.Pointer p) = TheKind.Pointer (record_or_zero (slice_get bases p))
kind_of_type bases (TheType.Procedure g) = TheKind.Procedure g
