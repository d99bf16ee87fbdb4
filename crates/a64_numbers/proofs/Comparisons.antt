-- What conditions say after SUBS, and what words with a condition compute.
use Rattle.std.proofs.Common.{◌≡◌, ◌≢◌, ℕ, ◌-◌, ◌^◌, ◌<◌, Bool, true, false, not, cond, ◌&&◌, int_lt, int_le, ◌-ℤ◌, pos, SFits, w64, refl, arith}
use Rattle.std.proofs.lemmas.Bool.Decides.{nat_tests}
use Rattle.wrapping_numbers.specs.Numbers.{signed, neg64}
use Rattle.a64_numbers.specs.Conditions.{subs_flags, holds, opposite, compares, csel, csinc, csneg}
use Rattle.a64_numbers.specs.declared.flags.Flags.{Flags}
use Rattle.a64_instr.specs.declared.instr.Cond.{Cond}
use Rattle.a64_instr.specs.declared.instr.Cond.TheVariants.{Eq, Ne, Hs, Lo, Mi, Pl, Vs, Vc, Hi, Ls, Ge, Lt, Gt, Le, Al}

-- after SUBS of a and b each condition is the comparison that it stands for
pub after_subs : (c : Cond) (a b : ℕ) → a < 2 ^ 64 → b < 2 ^ 64 → holds c (subs_flags a b) ≡ compares c a b
after_subs Eq a b p q = grind (arith, nat_tests)
after_subs Ne a b p q = grind (arith, nat_tests)
after_subs Hs a b p q = refl
after_subs Lo a b p q = grind (arith, nat_tests)
after_subs Hi a b p q = grind (arith, nat_tests)
after_subs Ls a b p q = grind (arith, nat_tests)
after_subs Ge a b p q = grind (arith, nat_tests)
after_subs Lt a b p q = grind (arith, nat_tests)
after_subs Gt a b p q = grind (arith, nat_tests)
after_subs Le a b p q = grind (arith, nat_tests)
after_subs Al a b p q = refl
after_subs Mi a b p q = refl
after_subs Pl a b p q = refl
after_subs Vs a b p q = refl
after_subs Vc a b p q = refl

-- V is clear exactly where the signed difference fits
pub fits_where_clear : (a b : ℕ) → a < 2 ^ 64 → b < 2 ^ 64 → (subs_flags a b).overflow ≡ false → SFits w64 (signed a -ℤ signed b)
fits_where_clear a b p q e = grind (arith, nat_tests)

pub clear_where_fits : (a b : ℕ) → a < 2 ^ 64 → b < 2 ^ 64 → SFits w64 (signed a -ℤ signed b) → (subs_flags a b).overflow ≡ false
clear_where_fits a b p q e = grind (arith, nat_tests)

not-not : (b : Bool) → b ≡ not (not b)
not-not true = refl
not-not false = refl

-- at any flags the opposite condition holds where this one doesn't
pub holds-opposite : (c : Cond) (f : Flags) → c ≢ Al → holds (opposite c) f ≡ not (holds c f)
holds-opposite Eq f h = refl
holds-opposite Ne f h = not-not f.zero
holds-opposite Hs f h = refl
holds-opposite Lo f h = not-not f.carry
holds-opposite Mi f h = refl
holds-opposite Pl f h = not-not f.negative
holds-opposite Vs f h = refl
holds-opposite Vc f h = not-not f.overflow
holds-opposite Hi f h = refl
holds-opposite Ls f h = not-not (f.carry && not f.zero)
holds-opposite Ge f h = refl
holds-opposite Lt f h = not-not _
holds-opposite Gt f h = refl
holds-opposite Le f h = not-not _
holds-opposite Al f h = absurd (h refl)

-- CSINC of XZR and XZR by the opposite condition: 1 where the condition holds, else 0
pub set_is : (c : Cond) (f : Flags) → c ≢ Al → csinc (opposite c) f 0 0 ≡ cond (holds c f) 1 0
set_is c f h = let e = holds-opposite c f h in grind (arith, nat_tests)

-- after SUBS of a and 0: the absolute value, the number where it isn't negative, the other truth value
pub abs_is : (a : ℕ) → a < 2 ^ 64 → csneg Ge (subs_flags a 0) a a ≡ cond (int_lt (signed a) (pos 0)) (neg64 a) a
abs_is a p = grind (arith, nat_tests)

pub max0_is : (a : ℕ) → a < 2 ^ 64 → csel Ge (subs_flags a 0) a 0 ≡ cond (int_lt (signed a) (pos 0)) 0 a
max0_is a p = grind (arith, nat_tests)

pub flip_is : (a : ℕ) → a < 2 → csinc Ne (subs_flags a 0) 0 0 ≡ 1 - a
flip_is a p = grind (arith, nat_tests)

-- one unsigned comparison tests an index against a length, and a number against a greatest one
pub below_is : (i n : ℕ) → i < 2 ^ 64 → n < 2 ^ 63 → holds Lo (subs_flags i n) ≡ (int_le (pos 0) (signed i) && int_lt (signed i) (pos n))
below_is i n p q = grind (arith, nat_tests)

pub up_to_is : (a n : ℕ) → a < 2 ^ 64 → n < 2 ^ 63 → holds Ls (subs_flags a n) ≡ (int_le (pos 0) (signed a) && int_le (signed a) (pos n))
up_to_is a n p q = grind (arith, nat_tests)

-- HS of numbers below 2 ^ 63: one length is at least another
pub fits_is : (a b : ℕ) → a < 2 ^ 63 → b < 2 ^ 63 → holds Hs (subs_flags a b) ≡ int_le (signed b) (signed a)
fits_is a b p q = grind (arith, nat_tests)
