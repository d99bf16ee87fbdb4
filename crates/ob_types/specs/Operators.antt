-- Operators on 64-bit numbers and on values (Oberon-07 report, section 8.2).
use Rattle.std.specs.Prelude.{ℕ, zero, suc, ◌-◌, ◌%◌, ◌^◌, pos, List, [], ◌∷◌, Bool, false, not, ◌&&◌, ◌||◌, ◌==◌, nat_le, int_lt, int_le, Option, Some, None, option_map, cond, bit_and, bit_or, bit_xor, if◌then◌else◌}
use Rattle.wrapping_numbers.specs.Numbers.{signed, unsigned, sign, add64, sub64, mul64, neg64, not64, bic64}
use Rattle.wrapping_numbers.specs.Division.{div_of, mod_of}
use Rattle.wrapping_numbers.specs.Shifts.{lsl64, asr64, ror64}
use Rattle.wrapping_numbers.specs.Sets.{subset}
use Rattle.ob_types.specs.Store.{Cell, Bits, Pointer, Code}
use Rattle.ob_types.specs.declared.tree.Unary.{Unary}
use Rattle.ob_types.specs.declared.tree.Unary.TheVariants.{Negate, Complement, Not, Abs, Odd}
use Rattle.ob_types.specs.declared.tree.Binary.{Binary}
use Rattle.ob_types.specs.declared.tree.Binary.TheVariants.{Add, Subtract, Multiply, Div, Mod, Union, Difference, Intersection, SymmetricDifference, Subset, Superset, Lsl, Asr, Ror}
use Rattle.ob_types.specs.declared.tree.Relation.{Relation}
use Rattle.ob_types.specs.declared.tree.Relation.TheVariants.{Equal, Unequal, Less, LessEqual, Greater, GreaterEqual}
use Rattle.ob_types.specs.declared.statements.Label.{Label}
use Rattle.ob_types.specs.declared.statements.Label.TheVariants.{One, Range}

-- TRUE is 1, FALSE is 0
abbrev pub truth : Bool → ℕ
truth b = cond b 1 0

-- a number that isn't 0 is TRUE
abbrev pub holds : ℕ → Bool
holds n = not (n == 0)

-- at least 0 and below the limit
abbrev pub inside : ℕ → ℕ → Bool
inside n limit = int_le (pos 0) (signed n) && int_lt (signed n) (pos limit)

-- the set of the elements from a to b
abbrev pub elements : ℕ → ℕ → ℕ
elements a b = if nat_le a b then 2 ^ suc b - 2 ^ a else 0

-- operators of one operand
abbrev pub unary_of : Unary → ℕ → ℕ
unary_of Negate x = neg64 x
unary_of Complement x = not64 x
unary_of Not x = truth (x == 0)
unary_of Abs x = cond (sign x) (neg64 x) x
unary_of Odd x = x % 2

-- operators of two operands; none where the divisor isn't positive
abbrev pub binary_of : Binary → ℕ → ℕ → Option ℕ
binary_of Add x y = Some (add64 x y)
binary_of Subtract x y = Some (sub64 x y)
binary_of Multiply x y = Some (mul64 x y)
binary_of Div x y = if int_lt (pos 0) (signed y) then Some (div_of x y) else None
binary_of Mod x y = if int_lt (pos 0) (signed y) then Some (mod_of x y) else None
binary_of Union x y = Some (bit_or x y)
binary_of Difference x y = Some (bic64 x y)
binary_of Intersection x y = Some (bit_and x y)
binary_of SymmetricDifference x y = Some (bit_xor x y)
binary_of Subset x y = Some (truth (subset x y))
binary_of Superset x y = Some (truth (subset y x))
binary_of Lsl x y = Some (lsl64 x y)
binary_of Asr x y = Some (asr64 x y)
binary_of Ror x y = Some (ror64 x y)

-- a relation of two numbers
abbrev pub related : Relation → ℕ → ℕ → Bool
related Equal x y = x == y
related Unequal x y = not (x == y)
related Less x y = int_lt (signed x) (signed y)
related LessEqual x y = int_le (signed x) (signed y)
related Greater x y = int_lt (signed y) (signed x)
related GreaterEqual x y = int_le (signed y) (signed x)

-- whether two values are the same: a pointer or procedure is compared with its like or with NIL
abbrev pub same_cell : Cell → Cell → Option Bool
same_cell (Bits x) (Bits y) = Some (x == y)
same_cell (Pointer x) (Pointer y) = Some (x == y)
same_cell (Code x) (Code y) = Some (x == y)
same_cell (Bits zero) _ = Some false
same_cell _ (Bits zero) = Some false
same_cell _ _ = None

-- only numbers have an order
abbrev pub relation_of : Relation → Cell → Cell → Option Bool
relation_of r (Bits x) (Bits y) = Some (related r x y)
relation_of Equal c d = same_cell c d
relation_of Unequal c d = option_map not (same_cell c d)
relation_of _ _ _ = None

-- a text: the characters before the first 0X
abbrev pub text_of : List ℕ → List ℕ
text_of [] = []
text_of (zero ∷ xs) = []
text_of (suc x ∷ xs) = suc x ∷ text_of xs

-- the relation of two texts: that of the first characters that differ, where the end counts as 0X
abbrev pub text_order : (ℕ → ℕ → Bool) → List ℕ → List ℕ → Bool
text_order r [] [] = r 0 0
text_order r [] (y ∷ ys) = r 0 y
text_order r (x ∷ xs) [] = r x 0
text_order r (x ∷ xs) (y ∷ ys) = if x == y then text_order r xs ys else r x y

-- how many characters they have in common before that
abbrev pub text_common : List ℕ → List ℕ → ℕ
text_common (x ∷ xs) (y ∷ ys) = if x == y then suc (text_common xs ys) else 0
text_common _ _ = 0

-- a label of CASE has the value, and some label has it
abbrev pub label_has : ℕ → Label → Bool
label_has v (One a) = v == unsigned a
label_has v (Range a b) = int_le a (signed v) && int_le (signed v) b

abbrev pub labels_have : ℕ → List Label → Bool
labels_have v [] = false
labels_have v (l ∷ ls) = label_has v l || labels_have v ls
