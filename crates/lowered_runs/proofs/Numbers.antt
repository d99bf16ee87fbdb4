-- What the operators of the language compute is what the operations compute.
use Rattle.std.proofs.Common.{◌≡◌, ℕ, zero, suc, ◌-◌, ◌^◌, ◌<◌, ◌≤◌, ⊎_elim, true, false, ◌&&◌, pos, refl, sym, ap, ◌∙◌, arith}
use Rattle.std.specs.Prelude.{nat_le, nat_lt, int_lt, ◌==◌, if◌then◌else◌}
use Rattle.std.specs.Int.{bit_at}
use Rattle.std.proofs.lemmas.Bool.{cases_lt}
use Rattle.std.proofs.lemmas.Bool.Decides.{nat_tests}
use Rattle.wrapping_numbers.specs.Numbers.{signed, sign}
use Rattle.wrapping_numbers.specs.Division.{div_of, mod_of, div_words, mod_words}
use Rattle.wrapping_numbers.specs.Sets.{has, has_words, bit_words, span_words}
use Rattle.wrapping_numbers.proofs.Division.{div_words_is, mod_words_is}
use Rattle.wrapping_numbers.proofs.Elements.{bit_is, has_is, has-span, same_set, span_closed}
use Rattle.wrapping_numbers.proofs.Bounds.{and64_lt}
use Rattle.ob_types.specs.Operators.{truth, inside, elements}

pub positive : (y : ℕ) → y < 2 ^ 64 → int_lt (pos 0) (signed y) ≡ true → (0 < y) × (y < 2 ^ 63)
positive y l h = (grind (arith, nat_tests), grind (arith, nat_tests))

pub div_same : (x y : ℕ) → x < 2 ^ 64 → y < 2 ^ 64 → int_lt (pos 0) (signed y) ≡ true → div_words x y ≡ div_of x y
div_same x y k l h = let q = positive y l h in div_words_is x y k q.0 q.1

pub mod_same : (x y : ℕ) → x < 2 ^ 64 → y < 2 ^ 64 → int_lt (pos 0) (signed y) ≡ true → mod_words x y ≡ mod_of x y
mod_same x y k l h = let q = positive y l h in mod_words_is x y k q.0 q.1

pub abs_same : (a : ℕ) → a < 2 ^ 64 → int_lt (signed a) (pos 0) ≡ sign a
abs_same a l = ⊎_elim (λ (low : a < 2 ^ 63). below low) (λ (high : 2 ^ 63 ≤ a). above high) (cases_lt a (2 ^ 63))
  where
    below : a < 2 ^ 63 → int_lt (signed a) (pos 0) ≡ sign a
    below low = grind (arith, nat_tests)

    above : 2 ^ 63 ≤ a → int_lt (signed a) (pos 0) ≡ sign a
    above high = grind (arith, nat_tests)

pub inside_same : (n limit : ℕ) → n < 2 ^ 64 → limit < 2 ^ 63 → nat_lt n limit ≡ inside n limit
inside_same n limit l k = ⊎_elim (λ (low : n < 2 ^ 63). below low) (λ (high : 2 ^ 63 ≤ n). above high) (cases_lt n (2 ^ 63))
  where
    below : n < 2 ^ 63 → nat_lt n limit ≡ inside n limit
    below low = ⊎_elim (λ (lt : n < limit). yes_lt low lt) (λ (ge : limit ≤ n). no_lt low ge) (cases_lt n limit)
      where
        yes_lt : n < 2 ^ 63 → n < limit → nat_lt n limit ≡ inside n limit
        yes_lt low lt = grind (arith, nat_tests)

        no_lt : n < 2 ^ 63 → limit ≤ n → nat_lt n limit ≡ inside n limit
        no_lt low ge = grind (arith, nat_tests)

    above : 2 ^ 63 ≤ n → nat_lt n limit ≡ inside n limit
    above high = grind (arith, nat_tests)

pub up_to : (n limit : ℕ) → nat_le n limit ≡ nat_lt n (suc limit)
up_to n limit = ⊎_elim (λ (lt : n < suc limit). within lt) (λ (ge : suc limit ≤ n). beyond ge) (cases_lt n (suc limit))
  where
    within : n < suc limit → nat_le n limit ≡ nat_lt n (suc limit)
    within lt = grind (arith, nat_tests)

    beyond : suc limit ≤ n → nat_le n limit ≡ nat_lt n (suc limit)
    beyond ge = grind (arith, nat_tests)

bit_small : (s a : ℕ) → bit_at s a < 2
bit_small s a = omega arith

one_bit : (n : ℕ) → n < 2 → n ≡ truth (n == 1)
one_bit zero lt = refl
one_bit (suc zero) lt = refl
one_bit (suc (suc n)) lt = absurd (omega (arith, lt))

pub has_same : (a s : ℕ) → a < 64 → has_words a s ≡ truth (has s a)
has_same a s lt = has_is a s lt ∙ one_bit (bit_at s a) (bit_small s a)

pub span_same : (a b : ℕ) → a < 64 → b < 64 → span_words a b ≡ elements a b
span_same a b k l = ⊎_elim (λ (lt : b < a). none lt) (λ (le : a ≤ b). span_closed a b k l le ∙ sym (ap (λ t. if t then 2 ^ suc b - 2 ^ a else 0) (at_most a b le))) (cases_lt b a)
  where
    at_most : (a b : ℕ) → a ≤ b → nat_le a b ≡ true
    at_most a b le = grind (arith, nat_tests)

    not_most : (a b : ℕ) → b < a → nat_le a b ≡ false
    not_most a b lt = grind (arith, nat_tests)

    outside : (x : ℕ) → b < a → (nat_le a x && nat_le x b) ≡ false
    outside x lt = grind (arith, nat_tests)

    empty : (x : ℕ) → has 0 x ≡ false
    empty x = ap (λ n. n == 1) (zero_bit x)
      where
        zero_bit : (x : ℕ) → bit_at 0 x ≡ 0
        zero_bit x = omega arith

    none : b < a → span_words a b ≡ elements a b
    none lt = same_set (span_words a b) 0 (and64_lt _ _ (omega arith)) (omega arith) (λ x less. has-span a b x k l less ∙ outside x lt ∙ sym (empty x))
        ∙ sym (ap (λ t. if t then 2 ^ suc b - 2 ^ a else 0) (not_most a b lt))

pub bit_same : (a : ℕ) → a < 64 → bit_words a ≡ elements a a
bit_same a lt = bit_is a lt ∙ double ∙ sym (ap (λ t. if t then 2 ^ suc a - 2 ^ a else 0) (itself a))
  where
    itself : (a : ℕ) → nat_le a a ≡ true
    itself a = grind (arith, nat_tests)

    double : 2 ^ a ≡ 2 ^ suc a - 2 ^ a
    double = omega arith
