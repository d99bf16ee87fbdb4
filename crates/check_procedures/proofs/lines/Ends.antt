-- Line ends before a place, and lines that begin up to it.
use Rattle.std.proofs.Common.{◌≡◌, ℕ, zero, suc, ◌+◌, ◌<◌, ◌≤◌, List, [], ◌∷◌, length, take, get_or, Bool, true, false, refl, sym, ap, ◌∙◌, subst, arith}
use Rattle.std.specs.Prelude.{nat_eq, if◌then◌else◌}
use Rattle.ob_judge.specs.Scopes.{line_ends}
use Rattle.check_procedures.specs.lines.Lines.{starts_from}

-- where lines begin, if a byte ends a line or not
abbrev begun : Bool → ℕ → List ℕ → List ℕ
begun ends at rest = if ends then suc at ∷ rest else rest

-- lines begin behind the first place, and each behind the one before
above : (at : ℕ) (bs : List ℕ) (k d : ℕ) → k < length (starts_from at bs) → at < get_or (starts_from at bs) k d
above at [] k d l = absurd (omega (arith, l))
above at (b ∷ bs) k d l = by (nat_eq b 10) (λ k l. above (suc at) bs k d l) k l
  where
    by : (ends : Bool) → ((k : ℕ) → k < length (starts_from (suc at) bs) → suc at < get_or (starts_from (suc at) bs) k d) → (k : ℕ) → k < length (begun ends at (starts_from (suc at) bs)) → at < get_or (begun ends at (starts_from (suc at) bs)) k d
    by true more zero l = omega arith
    by true more (suc k) l = let h = more k (omega (arith, l)) in omega (arith, h)
    by false more k l = let h = more k l in omega (arith, h)

pub rising : (at : ℕ) (bs : List ℕ) (i j d : ℕ) → i ≤ j → j < length (starts_from at bs) → get_or (starts_from at bs) i d ≤ get_or (starts_from at bs) j d
rising at [] i j d le l = absurd (omega (arith, l))
rising at (b ∷ bs) i j d le l = by (nat_eq b 10) (λ i j le l. rising (suc at) bs i j d le l) i j le l
  where
    by : (ends : Bool) → ((i j : ℕ) → i ≤ j → j < length (starts_from (suc at) bs) → get_or (starts_from (suc at) bs) i d ≤ get_or (starts_from (suc at) bs) j d)
        → (i j : ℕ) → i ≤ j → j < length (begun ends at (starts_from (suc at) bs)) → get_or (begun ends at (starts_from (suc at) bs)) i d ≤ get_or (begun ends at (starts_from (suc at) bs)) j d
    by true more zero zero le l = omega arith
    by true more zero (suc j) le l = let h = above (suc at) bs j d (omega (arith, l)) in omega (arith, h)
    by true more (suc i) zero le l = absurd (omega (arith, le))
    by true more (suc i) (suc j) le l = more i j (omega (arith, le)) (omega (arith, l))
    by false more i j le l = more i j le l

take_none : (n : ℕ) → line_ends (take n ([])) ≡ 0
take_none zero = refl
take_none (suc n) = refl

-- r is how many of these places are up to p
abbrev IsCount : ℕ → List ℕ → ℕ → ℕ → Type 0
IsCount p starts d r = (r ≤ length starts) × ((k : ℕ) → k < r → get_or starts k d ≤ p) × ((k : ℕ) → r ≤ k → k < length starts → p < get_or starts k d)

-- as many lines begin up to a place as line ends stand before it
counted : (p at : ℕ) (bs : List ℕ) (n d r : ℕ) → p ≡ at + n → IsCount p (starts_from at bs) d r → r ≡ line_ends (take n bs)
counted p at [] n d r is (bound, low, high) = omega (arith, bound) ∙ sym (take_none n)
counted p at (b ∷ bs) zero d zero is (bound, low, high) = refl
counted p at (b ∷ bs) zero d (suc r) is (bound, low, high) =
    absurd (let x = low 0 (omega arith) in let y = above at (b ∷ bs) 0 d (omega (arith, bound)) in omega (arith, x, y, is))
counted p at (b ∷ bs) (suc n) d r is (bound, low, high) = by (nat_eq b 10) (λ r h. counted p (suc at) bs n d r (omega (arith, is)) h) r bound low high
  where
    by : (ends : Bool) → ((r : ℕ) → IsCount p (starts_from (suc at) bs) d r → r ≡ line_ends (take n bs)) → (r : ℕ) → r ≤ length (begun ends at (starts_from (suc at) bs))
        → ((k : ℕ) → k < r → get_or (begun ends at (starts_from (suc at) bs)) k d ≤ p)
        → ((k : ℕ) → r ≤ k → k < length (begun ends at (starts_from (suc at) bs)) → p < get_or (begun ends at (starts_from (suc at) bs)) k d)
        → r ≡ (if ends then suc (line_ends (take n bs)) else line_ends (take n bs))
    by true more zero bound low high = absurd (let x = high 0 (omega arith) (omega arith) in omega (arith, x, is))
    by true more (suc r) bound low high = ap suc (more r (omega (arith, bound), λ k l. low (suc k) (omega (arith, l)), λ k g l. high (suc k) (omega (arith, g)) (omega (arith, l))))
    by false more r bound low high = more r (bound, low, high)

-- no more lines begin than there are bytes
at_most : (at : ℕ) (bs : List ℕ) → length (starts_from at bs) ≤ length bs
at_most at [] = omega arith
at_most at (b ∷ bs) = by (nat_eq b 10) (at_most (suc at) bs)
  where
    by : (ends : Bool) → length (starts_from (suc at) bs) ≤ length bs → length (begun ends at (starts_from (suc at) bs)) ≤ suc (length bs)
    by true h = omega (arith, h)
    by false h = omega (arith, h)

-- the line at a place, by the lines that begin up to it
pub line_is : (bytes lines : List ℕ) (p d r : ℕ) → lines ≡ starts_from 0 bytes → r ≤ length lines → ((k : ℕ) → k < r → get_or lines k d ≤ p) → ((k : ℕ) → r ≤ k → k < length lines → p < get_or lines k d) → 1 + r ≡ suc (line_ends (take p bytes))
line_is bytes lines p d r is bound low high = let e = counted p 0 bytes p d r (omega arith) (subst (λ ls. IsCount p ls d r) is (bound, low, high)) in omega (arith, e)

pub few_lines : (bytes lines : List ℕ) (r : ℕ) → lines ≡ starts_from 0 bytes → length bytes < 4294967295 → r ≤ length lines → r < 4294967295
few_lines bytes lines r is few bound = let e = ap (λ ls. length ls) is in let m = at_most 0 bytes in omega (arith, e, m, few, bound)
