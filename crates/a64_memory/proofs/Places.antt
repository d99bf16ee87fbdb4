-- The area at a place is the one that a store changes.
use Rattle.std.proofs.Common.{◌≡◌, ℕ, zero, suc, ◌+◌, ◌≤◌, List, [], ◌∷◌, length, Bool, true, false, ◌||◌, cond, Some, None, slice_index_or, slice_set, refl, arith, ap, ◌∙◌}
use Rattle.a64_memory.specs.Memory.{Area, lies, covers, place, written, with_bytes}

place_above : (m : List Area) (k p n i : ℕ) → place m k p n ≡ Some i → k ≤ i
place_above [] k p n i e = cc
place_above (a ∷ m) k p n i e = at (lies a p n) (place_above m (k + 1) p n i) e
  where
    at : (b : Bool) → (place m (k + 1) p n ≡ Some i → k + 1 ≤ i) → cond b (Some k) (place m (k + 1) p n) ≡ Some i → k ≤ i
    at true f h = let g : k ≡ i = cc in omega arith
    at false f h = let g = f h in omega arith

-- no area has the bytes where none is found
pub covers-none : (m : List Area) (k p n : ℕ) → place m k p n ≡ None → covers m p n ≡ false
covers-none [] k p n e = refl
covers-none (a ∷ m) k p n e = at (lies a p n) (covers-none m (k + 1) p n) e
  where
    at : (b : Bool) → (place m (k + 1) p n ≡ None → covers m p n ≡ false) → cond b (Some k) (place m (k + 1) p n) ≡ None → (b || covers m p n) ≡ false
    at true f h = cc
    at false f h = f h

pub covers-some : (m : List Area) (k p n i : ℕ) → place m k p n ≡ Some i → covers m p n ≡ true
covers-some [] k p n i e = cc
covers-some (a ∷ m) k p n i e = at (lies a p n) (covers-some m (k + 1) p n i) e
  where
    at : (b : Bool) → (place m (k + 1) p n ≡ Some i → covers m p n ≡ true) → cond b (Some k) (place m (k + 1) p n) ≡ Some i → (b || covers m p n) ≡ true
    at true f h = refl
    at false f h = f h

-- and nothing changes then
pub with_bytes-none : (m : List Area) (p : ℕ) (bs : List ℕ) → covers m p (length bs) ≡ false → with_bytes m p bs ≡ m
with_bytes-none [] p bs e = refl
with_bytes-none (a ∷ m) p bs e = at (lies a p (length bs)) (with_bytes-none m p bs) e
  where
    at : (b : Bool) → (covers m p (length bs) ≡ false → with_bytes m p bs ≡ m) → (b || covers m p (length bs)) ≡ false → cond b (written a p bs ∷ m) (a ∷ with_bytes m p bs) ≡ a ∷ m
    at true f h = cc
    at false f h = ap (λ l. a ∷ l) (f h)

-- the area at the place found is written, and the others stay
pub with_bytes-some : (m : List Area) (k j p : ℕ) (bs : List ℕ) (x d : Area) → place m k p (length bs) ≡ Some (k + j) → x ≡ written (slice_index_or m j d) p bs → slice_set m j x ≡ with_bytes m p bs
with_bytes-some [] k j p bs x d e w = cc
with_bytes-some (a ∷ m) k zero p bs x d e w = at (lies a p (length bs)) (place_above m (k + 1) p (length bs) (k + 0)) e
  where
    at : (b : Bool) → (place m (k + 1) p (length bs) ≡ Some (k + 0) → k + 1 ≤ k + 0) → cond b (Some k) (place m (k + 1) p (length bs)) ≡ Some (k + 0) → x ∷ m ≡ cond b (written a p bs ∷ m) (a ∷ with_bytes m p bs)
    at true f h = ap (λ y. y ∷ m) w
    at false f h = let g = f h in absurd (omega arith)
with_bytes-some (a ∷ m) k (suc j) p bs x d e w = at (lies a p (length bs)) (λ h. with_bytes-some m (k + 1) j p bs x d h w) e
  where
    at : (b : Bool) → (place m (k + 1) p (length bs) ≡ Some (k + 1 + j) → slice_set m j x ≡ with_bytes m p bs) → cond b (Some k) (place m (k + 1) p (length bs)) ≡ Some (k + suc j)
        → a ∷ slice_set m j x ≡ cond b (written a p bs ∷ m) (a ∷ with_bytes m p bs)
    at true f h = let g : k ≡ k + suc j = cc in absurd (omega arith)
    at false f h = let same : k + suc j ≡ k + 1 + j = omega arith in ap (λ l. a ∷ l) (f (h ∙ ap Some same))
