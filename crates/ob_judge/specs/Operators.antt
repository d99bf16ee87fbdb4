-- Which operands operators take, the types of their results, and what they are in the checked tree (Oberon-07 report,
-- section 8.2).
use Rattle.std.specs.Prelude.{Bool, true, false, ◌&&◌, ◌||◌, not, nat_eq, Option, Some, None}
use Rattle.ob_types.specs.declared.tree.Unary.TheVariants as TheUnary
use Rattle.ob_types.specs.declared.tree.Binary.{Binary}
use Rattle.ob_types.specs.declared.tree.Binary.TheVariants as TheBinary
use Rattle.ob_types.specs.declared.tree.Relation.{Relation}
use Rattle.ob_types.specs.declared.tree.Relation.TheVariants as TheRelation
use Rattle.ob_judge.specs.Shapes.{Shape, Integer, Boolean, Char, Byte, Set, Nil, Text, Array, Open, Pointer, Procedure, Known, same, extends, is_number, is_set, is_reference}
use Rattle.ob_judge.specs.Image.{Expr, Apply, Linked, Operate}
use Rattle.ob_judge.specs.Image as Tree

pub data Operator : Type 0 where
  Plus Minus Times Slash Div Mod And Or : Operator

-- a row of the table of operators: the result's type, and what the operator makes of two operands
abbrev pub Row : Type 0
Row = Shape × (Expr → Expr → Expr)

-- an operator that evaluates both operands
abbrev pub operated : Binary → Expr → Expr → Expr
operated operator x y = Linked x (Operate operator y)

abbrev pub on_numbers : Operator → Option Row
on_numbers Plus = Some (Integer, operated TheBinary.Add)
on_numbers Minus = Some (Integer, operated TheBinary.Subtract)
on_numbers Times = Some (Integer, operated TheBinary.Multiply)
on_numbers Div = Some (Integer, operated TheBinary.Div)
on_numbers Mod = Some (Integer, operated TheBinary.Mod)
on_numbers op = None

abbrev pub on_sets : Operator → Option Row
on_sets Plus = Some (Set, operated TheBinary.Union)
on_sets Minus = Some (Set, operated TheBinary.Difference)
on_sets Times = Some (Set, operated TheBinary.Intersection)
on_sets Slash = Some (Set, operated TheBinary.SymmetricDifference)
on_sets op = None

abbrev pub on_truths : Operator → Option Row
on_truths And = Some (Boolean, λ x y. Linked x (Tree.And y))
on_truths Or = Some (Boolean, λ x y. Linked x (Tree.Or y))
on_truths op = None

abbrev pub row_of : Operator → Shape → Shape → Option Row
row_of op Set Set = on_sets op
row_of op Boolean Boolean = on_truths op
row_of op Integer Integer = on_numbers op
row_of op Integer Byte = on_numbers op
row_of op Byte Integer = on_numbers op
row_of op Byte Byte = on_numbers op
row_of op a b = None

-- of a minus sign before an operand
abbrev pub negated_row : Shape → Option (Shape × (Expr → Expr))
negated_row Set = Some (Set, Apply TheUnary.Complement)
negated_row Integer = Some (Integer, Apply TheUnary.Negate)
negated_row Byte = Some (Integer, Apply TheUnary.Negate)
negated_row a = None

-- a CHAR, or a string of one character
abbrev pub is_char : Shape → Bool
is_char Char = true
is_char (Text n) = nat_eq n 1
is_char a = false

-- a string or an array of CHAR
abbrev pub is_text : Shape → Bool
is_text (Text n) = true
is_text (Array n Char) = true
is_text (Open Char) = true
is_text a = false

abbrev pub is_equality : Relation → Bool
is_equality TheRelation.Equal = true
is_equality TheRelation.Unequal = true
is_equality r = false

abbrev pub is_inclusion : Relation → Bool
is_inclusion TheRelation.LessEqual = true
is_inclusion TheRelation.GreaterEqual = true
is_inclusion r = false

-- two values that may only be equal or not
abbrev pub may_equal : Known → Shape → Shape → Bool
may_equal known Boolean Boolean = true
may_equal known Set Set = true
may_equal known (Pointer a) (Pointer b) = extends known (Pointer a) (Pointer b) || extends known (Pointer b) (Pointer a)
may_equal known (Procedure ps a) (Procedure qs b) = same (Procedure ps a) (Procedure qs b)
may_equal known Nil b = is_reference b
may_equal known a Nil = is_reference a
may_equal known a b = false

-- two numbers, or two characters
abbrev pub are_ordered : Shape → Shape → Bool
are_ordered a b = is_number a && is_number b || is_char a && is_char b

-- two texts that aren't two characters
abbrev pub are_texts : Shape → Shape → Bool
are_texts a b = not (are_ordered a b) && is_text a && is_text b

-- two sets, of which one is to include the other
abbrev pub are_included : Relation → Shape → Shape → Bool
are_included r a b = is_inclusion r && is_set a && is_set b

-- the relation has a row in the table
abbrev pub may_compare : Known → Relation → Shape → Shape → Bool
may_compare known r a b = are_ordered a b || are_texts a b || are_included r a b || is_equality r && may_equal known a b
