-- What literals and strings are in a text that was read.
use Rattle.std.proofs.Common.{◌≡◌, ℕ, zero, suc, ◌+◌, ◌-◌, ◌<◌, ◌≤◌, ◌^◌, List, [], ◌∷◌, length, take, drop, Bool, true, false, ◌&&◌, refl, arith}
use Rattle.std.specs.Prelude.{if◌then◌else◌, nat_lt, nat_le, slice_range}
use Rattle.std.proofs.lemmas.Bool.Decides.{nat_tests}
use Rattle.ob_types.specs.Forms.{all}
use Rattle.ob_types.proofs.Tests.{and_of, and_from}
use Rattle.ob_symbol.specs.declared.symbol.Kind.{Kind}
use Rattle.ob_symbol.specs.declared.symbol.Kind.TheVariants as TheKind
use Rattle.ob_judge.specs.Scopes.{World, Source, symbol_at, part, characters}
use Rattle.ob_judge.specs.Parts.{int_of, char_of}
use Rattle.judged_well.specs.Standing.{are_characters, IsRead}

all_take : (test : ℕ → Bool) (n : ℕ) (xs : List ℕ) → all test xs ≡ true → all test (take n xs) ≡ true
all_take test zero xs h = refl
all_take test (suc n) [] h = refl
all_take test (suc n) (x ∷ xs) h = let g = and_of (test x) (all test xs) h in and_from (test x) (all test (take n xs)) g.0 (all_take test n xs g.1)

all_drop : (test : ℕ → Bool) (n : ℕ) (xs : List ℕ) → all test xs ≡ true → all test (drop n xs) ≡ true
all_drop test zero xs h = h
all_drop test (suc n) [] h = refl
all_drop test (suc n) (x ∷ xs) h = all_drop test n xs (and_of (test x) (all test xs) h).1

take_short : (n : ℕ) (xs : List ℕ) → length (take n xs) ≤ length xs
take_short zero xs = omega arith
take_short (suc n) [] = omega arith
take_short (suc n) (x ∷ xs) = let h = take_short n xs in omega (arith, h)

drop_short : (n : ℕ) (xs : List ℕ) → length (drop n xs) ≤ length xs
drop_short zero xs = omega arith
drop_short (suc n) [] = omega arith
drop_short (suc n) (x ∷ xs) = let h = drop_short n xs in omega (arith, h)

module _ (p : Source) (read : IsRead p) where
  pub int_small : (w : World) (i : ℕ) → int_of (symbol_at p i).kind < 2 ^ 64
  int_small w i = by (symbol_at p i).kind refl
    where
      by : (k : Kind) → (symbol_at p i).kind ≡ k → int_of k < 2 ^ 64
      by (TheKind.Int z) is = read.numbers i z is
      by _ is = omega arith

  pub char_small : (w : World) (i : ℕ) → char_of (symbol_at p i).kind < 256
  char_small w i = by (symbol_at p i).kind refl
    where
      by : (k : Kind) → (symbol_at p i).kind ≡ k → char_of k < 256
      by (TheKind.Char n) is = read.chars i n is
      by _ is = omega arith

  part_are : (from to : ℕ) → are_characters (part p.bytes from to) ≡ true
  part_are from to = by (nat_le from to && nat_le to (length p.bytes))
    where
      by : (b : Bool) → are_characters (if b then slice_range p.bytes from to else []) ≡ true
      by false = refl
      by true = and_from (all (λ c. nat_lt c 256) (slice_range p.bytes from to)) (nat_lt (suc (length (slice_range p.bytes from to))) (2 ^ 32))
          (all_take (λ c. nat_lt c 256) (to - from) (drop from p.bytes) (all_drop (λ c. nat_lt c 256) from p.bytes read.bytes))
          (few (length (slice_range p.bytes from to)) (length (drop from p.bytes)) (take_short (to - from) (drop from p.bytes)) (drop_short from p.bytes) read.few)
        where
          few : (n m : ℕ) → n ≤ m → m ≤ length p.bytes → length p.bytes + 2 < 2 ^ 32 → nat_lt (suc n) (2 ^ 32) ≡ true
          few n m h k l = grind (arith, nat_tests)

  pub characters_are : (i : ℕ) → are_characters (characters p i) ≡ true
  characters_are i = part_are ((symbol_at p i).from + 1) ((symbol_at p i).to - 1)
