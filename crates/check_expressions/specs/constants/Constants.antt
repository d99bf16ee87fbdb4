-- Constants, as code holds them, and which operands are constants.
use Rattle.std.specs.Prelude.{◌≡◌, ℕ, List, [], Bool, true, Option, Some, None, is_some, slice_index_or}
use Rattle.ob_judge.specs.Shapes.{Shape, Integer, Boolean, Char, Byte, Set, Nil}
use Rattle.ob_judge.specs.Image as I
use Rattle.ob_judge.specs.Operands.{What, Chars}
use Rattle.check_types.specs.declared.names.scope.Scope.{Scope}
use Rattle.check_types.specs.names.Basics.{basic_shape}
use Rattle.check_operands.specs.Operands.{texts_of}
use Rattle.check_expressions.specs.declared.constants.constants.ConstantValue.{ConstantValue}
use Rattle.check_expressions.specs.declared.constants.constants.ConstantValue.TheVariants as TheValue

-- this constant, its strings by their numbers
abbrev pub constant_meant : List (List ℕ) → ConstantValue → I.Constant
constant_meant texts (TheValue.Bits b n) = I.Bits (basic_shape b) n
constant_meant texts (TheValue.Chars k) = I.Chars (slice_index_or texts k [])

-- it is what the judgement comes to
abbrev pub IsConstant : Scope → ConstantValue → I.Constant → Type 0
IsConstant s c x = constant_meant (texts_of s) c ≡ x

-- the types of constants that are no strings
abbrev pub basic_in : Shape → Option Shape
basic_in Integer = Some Integer
basic_in Boolean = Some Boolean
basic_in Char = Some Char
basic_in Byte = Some Byte
basic_in Set = Some Set
basic_in Nil = Some Nil
basic_in s = None

-- a string's characters
abbrev pub chars_in : What → Option (List ℕ)
chars_in (Chars cs) = Some cs
chars_in w = None

-- a string, or of such a type
abbrev pub is_plain : Shape → What → Bool
is_plain s (Chars cs) = true
is_plain s w = is_some (basic_in s)
