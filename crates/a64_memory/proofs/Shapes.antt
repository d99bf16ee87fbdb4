-- What the bases and lengths of the areas alone decide, and the bytes of a memory that is made.
use Rattle.std.proofs.Common.{◌≡◌, ℕ, zero, suc, ◌+◌, ◌^◌, ◌≤◌, List, [], ◌∷◌, ◌++◌, length, replicate, ◌||◌, refl, arith, sym, ap, ◌∙◌, subst}
use Rattle.a64_memory.specs.Memory.{Area, lies, covers, IsRising, AreBytes, Shape, shapes, covered}

-- whether bytes lie in one area goes by the shapes
pub covers-shapes : (m : List Area) (p n : ℕ) → covers m p n ≡ covered (shapes m) p n
covers-shapes [] p n = refl
covers-shapes (a ∷ m) p n = ap (λ b. lies a p n || b) (covers-shapes m p n)

pub same_covers : (m t : List Area) (p n : ℕ) → shapes m ≡ shapes t → covers m p n ≡ covers t p n
same_covers m t p n e = covers-shapes m p n ∙ ap (λ s. covered s p n) e ∙ sym (covers-shapes t p n)

-- zeros are bytes, and so are lists of bytes one after the other
pub zero_bytes : (n : ℕ) → AreBytes (replicate n 0)
zero_bytes zero i = omega arith
zero_bytes (suc n) zero = omega arith
zero_bytes (suc n) (suc i) = zero_bytes n i

pub append_bytes : (xs ys : List ℕ) → AreBytes xs → AreBytes ys → AreBytes (xs ++ ys)
append_bytes [] ys s t i = t i
append_bytes (x ∷ xs) ys s t zero = s 0
append_bytes (x ∷ xs) ys s t (suc i) = append_bytes xs ys (λ k. s (suc k)) t i

-- whether the areas lie one above the other goes by the shapes too
abbrev rises : ℕ → List Shape → Type 0
rises low [] = low ≤ 2 ^ 64
rises low (s ∷ ss) = (low ≤ s.base) × rises (s.base + s.bytes) ss

to_shapes : (m : List Area) (low : ℕ) → IsRising low m → rises low (shapes m)
to_shapes [] low r = r
to_shapes (a ∷ m) low r = (r.0, to_shapes m (a.base + length a.bytes) r.1)

from_shapes : (m : List Area) (low : ℕ) → rises low (shapes m) → IsRising low m
from_shapes [] low r = r
from_shapes (a ∷ m) low r = (r.0, from_shapes m (a.base + length a.bytes) r.1)

pub same_rising : (m t : List Area) (low : ℕ) → shapes m ≡ shapes t → IsRising low m → IsRising low t
same_rising m t low e r = from_shapes t low (subst (λ s. rises low s) e (to_shapes m low r))
