-- Values that are numbered one after the other.
use Rattle.std.proofs.lemmas.Bool.{leb-true}
use Rattle.std.proofs.Common.{◌-◌, ◌≡◌, ℕ, zero, suc, ◌+◌, ◌<◌, ◌≤◌, nat_le, [], ◌∷◌, ◌++◌, Bool, true, false, ◌||◌, not, refl, sym, ap, ap₂, ◌∙◌, arith}
use Rattle.std.proofs.lemmas.Bool.Decides.{nat_tests}
use Rattle.size_limits.specs.Limits.{most_values}
use Rattle.ssa_lowered.specs.Pieces.{numbers}
use Rattle.ssa_lowered.specs.Limits.{too_many}

pub numbers_more : (i n : ℕ) → numbers i (suc n) ≡ numbers i n ++ ((i + n) ∷ [])
numbers_more i zero = let e : i ≡ i + 0 = omega arith in ap (λ k. k ∷ []) e
numbers_more i (suc n) = let e : suc i + n ≡ i + suc n = omega arith in ap (λ l. i ∷ l) (numbers_more (suc i) n ∙ ap (λ k. numbers (suc i) n ++ (k ∷ [])) e)

or_true : (a : Bool) → a || true ≡ true
or_true true = refl
or_true false = refl

few : (i n : ℕ) → i + n ≤ most_values → too_many (numbers i n) ≡ false
few i zero le = refl
few i (suc n) le =
    let low : nat_le most_values i ≡ false = grind (arith, nat_tests) in
    ap₂ (λ a b. a || b) low (few (suc i) n (omega (arith, le)))

many : (i n : ℕ) → most_values < i + suc n → too_many (numbers i (suc n)) ≡ true
many i zero lt =
    let high : nat_le most_values i ≡ true = grind (arith, nat_tests) in
    ap (λ a. a || too_many (numbers (suc i) 0)) high
many i (suc n) lt = ap (λ b. nat_le most_values i || b) (many (suc i) n (omega (arith, lt))) ∙ or_true (nat_le most_values i)

room_by : (b : Bool) (i n : ℕ) → nat_le i (most_values - suc n) ≡ b → suc n ≤ most_values → nat_le i (most_values - suc n) ≡ not (too_many (numbers i (suc n)))
room_by true i n e small = let le : i + suc n ≤ most_values = let h = leb-true i (most_values - suc n) e in omega (arith, h, small) in e ∙ ap not (sym (few i (suc n) le))
room_by false i n e small = let lt : most_values < i + suc n = grind (arith, nat_tests) in e ∙ ap not (sym (many i n lt))

pub room : (i n : ℕ) → 0 < n → n ≤ most_values → nat_le i (most_values - n) ≡ not (too_many (numbers i n))
room i zero pos small = absurd (omega (arith, pos))
room i (suc n) pos small = room_by (nat_le i (most_values - suc n)) i n refl small

pub no_room : (i n : ℕ) → most_values < n → not (too_many (numbers i n)) ≡ false
no_room i zero lt = absurd (omega (arith, lt))
no_room i (suc n) lt = ap not (many i n (omega (arith, lt)))
