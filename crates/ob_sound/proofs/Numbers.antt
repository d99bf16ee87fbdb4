-- What the operators give stays below 2 ^ 64, and an index that passes its test is below the length.
use Rattle.std.proofs.Common.{◌≡◌, ℕ, suc, ◌-◌, ◌^◌, ◌<◌, ◌≤◌, Bool, true, false, cond, Some, None, refl, subst, arith, pow_mono, pow_pos, pos}
use Rattle.std.specs.Prelude.{nat_le, int_lt, if◌then◌else◌}
use Rattle.std.proofs.lemmas.Bool.Decides.{nat_tests}
use Rattle.wrapping_numbers.specs.Numbers.{signed, sign, neg64}
use Rattle.wrapping_numbers.specs.Division.{div_of, mod_of}
use Rattle.wrapping_numbers.specs.Sets.{subset}
use Rattle.wrapping_numbers.proofs.Bounds.{and64_lt, or64_lt, xor64_lt, bic64_lt, ror64_lt}
use Rattle.wrapping_numbers.proofs.Wrapping.{add64_lt, sub64_lt, mul64_lt, neg64_lt, not64_lt}
use Rattle.wrapping_numbers.proofs.Amounts.{lsl64_lt, asr64_lt}
use Rattle.wrapping_numbers.proofs.Division.{div_words_is, mod_words_is}
use Rattle.ob_types.specs.Operators.{truth, inside, elements, unary_of, binary_of}
use Rattle.ob_types.specs.declared.tree.Unary.{Unary}
use Rattle.ob_types.specs.declared.tree.Unary.TheVariants.{Negate, Complement, Not, Abs, Odd}
use Rattle.ob_types.specs.declared.tree.Binary.{Binary}
use Rattle.ob_types.specs.declared.tree.Binary.TheVariants.{Add, Subtract, Multiply, Div, Mod, Union, Difference, Intersection, SymmetricDifference, Subset, Superset, Lsl, Asr, Ror}
use Rattle.ob_types.proofs.Tests.{none_some, some_same}

pub truth_lt : (b : Bool) → truth b < 2 ^ 64
truth_lt true = omega arith
truth_lt false = omega arith

pub unary_lt : (op : Unary) (a : ℕ) → a < 2 ^ 64 → unary_of op a < 2 ^ 64
unary_lt Negate a l = neg64_lt a
unary_lt Complement a l = not64_lt a
unary_lt Not a l = truth_lt _
unary_lt Abs a l = by (sign a)
  where
    by : (b : Bool) → cond b (neg64 a) a < 2 ^ 64
    by true = neg64_lt a
    by false = l
unary_lt Odd a l = omega arith

positive : (y : ℕ) → y < 2 ^ 64 → int_lt (pos 0) (signed y) ≡ true → (0 < y) × (y < 2 ^ 63)
positive y l h = (grind (arith, nat_tests), grind (arith, nat_tests))

div_lt : (x y : ℕ) → x < 2 ^ 64 → y < 2 ^ 64 → int_lt (pos 0) (signed y) ≡ true → div_of x y < 2 ^ 64
div_lt x y k l h = let q = positive y l h in subst (λ n. n < 2 ^ 64) (div_words_is x y k q.0 q.1) (add64_lt _ _)

mod_lt : (x y : ℕ) → x < 2 ^ 64 → y < 2 ^ 64 → int_lt (pos 0) (signed y) ≡ true → mod_of x y < 2 ^ 64
mod_lt x y k l h = let q = positive y l h in subst (λ n. n < 2 ^ 64) (mod_words_is x y k q.0 q.1) (add64_lt _ _)

one : (m n : ℕ) → m < 2 ^ 64 → Some m ≡ Some n → n < 2 ^ 64
one m n l e = subst (λ k. k < 2 ^ 64) (some_same m n e) l

tested : (b : Bool) (m n : ℕ) → (b ≡ true → m < 2 ^ 64) → (if b then Some m else None) ≡ Some n → n < 2 ^ 64
tested true m n l e = one m n (l refl) e
tested false m n l e = none_some n e

pub binary_lt : (op : Binary) (a b n : ℕ) → a < 2 ^ 64 → b < 2 ^ 64 → binary_of op a b ≡ Some n → n < 2 ^ 64
binary_lt Add a b n k l e = one _ n (add64_lt a b) e
binary_lt Subtract a b n k l e = one _ n (sub64_lt a b) e
binary_lt Multiply a b n k l e = one _ n (mul64_lt a b) e
binary_lt Div a b n k l e = tested (int_lt (pos 0) (signed b)) (div_of a b) n (div_lt a b k l) e
binary_lt Mod a b n k l e = tested (int_lt (pos 0) (signed b)) (mod_of a b) n (mod_lt a b k l) e
binary_lt Union a b n k l e = one _ n (or64_lt a b k l) e
binary_lt Difference a b n k l e = one _ n (bic64_lt a b k) e
binary_lt Intersection a b n k l e = one _ n (and64_lt a b k) e
binary_lt SymmetricDifference a b n k l e = one _ n (xor64_lt a b k l) e
binary_lt Subset a b n k l e = one _ n (truth_lt (subset a b)) e
binary_lt Superset a b n k l e = one _ n (truth_lt (subset b a)) e
binary_lt Lsl a b n k l e = one _ n (lsl64_lt a b) e
binary_lt Asr a b n k l e = one _ n (asr64_lt a b k) e
binary_lt Ror a b n k l e = one _ n (ror64_lt a b k) e

pub inside_lt : (i n : ℕ) → i < 2 ^ 64 → n < 2 ^ 63 → inside i n ≡ true → i < n
inside_lt i n l m h = grind (arith, nat_tests)

power_lt : (b : ℕ) → b < 64 → 2 ^ suc b ≤ 2 ^ 64
power_lt b l = pow_mono l

pub elements_lt : (a b : ℕ) → a < 64 → b < 64 → elements a b < 2 ^ 64
elements_lt a b k l = by (nat_le a b)
  where
    by : (t : Bool) → (if t then 2 ^ suc b - 2 ^ a else 0) < 2 ^ 64
    by true = let p = power_lt b l in let q = pow_pos a in omega (arith, p, q)
    by false = omega arith
