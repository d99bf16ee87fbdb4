-- What loads give after stores, by addresses.
use Rattle.std.proofs.Common.{◌≡◌, ℕ, ◌+◌, ◌-◌, ◌≤◌, ◌⊎◌, ⊎_elim, inl, inr, List, [], ◌∷◌, length, Bool, true, false, ◌&&◌, ◌||◌, cond, nat_le, refl, arith, sym, ap, ◌∙◌, subst}
use Rattle.std.proofs.lemmas.Bool.{cond-true, cond-false}
use Rattle.std.proofs.lemmas.Bool.Decides.{nat_tests}
use Rattle.a64_memory.specs.Bytes.{slab}
use Rattle.a64_memory.specs.Memory.{Area, lies, covers, bytes_at, written, with_bytes, IsRising, AreBytes, IsOfBytes, shapes}
use Rattle.a64_memory.proofs.Slabs.{length-splice, slab-splice_same, slab-splice_apart, length-slab, small_splice}

-- what it means that bytes lie in an area
pub lies-base : (a : Area) (p n : ℕ) → lies a p n ≡ true → a.base ≤ p
lies-base a p n h = grind (arith, nat_tests)

pub lies-end : (a : Area) (p n : ℕ) → lies a p n ≡ true → p - a.base + n ≤ length a.bytes
lies-end a p n h = grind (arith, nat_tests)

-- a store in an area leaves its base and its length
pub length-written : (a : Area) (p : ℕ) (bs : List ℕ) → lies a p (length bs) ≡ true → length (written a p bs).bytes ≡ length a.bytes
length-written a p bs h = length-splice a.bytes (p - a.base) bs (lies-end a p (length bs) h)

-- what lies in an area still lies there after a store
pub lies-written : (a : Area) (p : ℕ) (bs : List ℕ) (q k : ℕ) → lies a p (length bs) ≡ true → lies (written a p bs) q k ≡ lies a q k
lies-written a p bs q k h = ap (λ l. nat_le a.base q && nat_le (q + k) (a.base + l)) (length-written a p bs h)

-- the bases and lengths of the areas stay
pub shapes-with_bytes : (m : List Area) (p : ℕ) (bs : List ℕ) → shapes (with_bytes m p bs) ≡ shapes m
shapes-with_bytes [] p bs = refl
shapes-with_bytes (a ∷ m) p bs = at (lies a p (length bs)) refl (shapes-with_bytes m p bs)
  where
    at : (b : Bool) → lies a p (length bs) ≡ b → shapes (with_bytes m p bs) ≡ shapes m → shapes (cond b (written a p bs ∷ m) (a ∷ with_bytes m p bs)) ≡ shapes (a ∷ m)
    at true h e = ap (λ l. record { base = a.base; bytes = l } ∷ shapes m) (length-written a p bs h)
    at false h e = ap (λ s. record { base = a.base; bytes = length a.bytes } ∷ s) e

-- so what has its bytes in one area keeps them there
pub covers-with_bytes : (m : List Area) (p : ℕ) (bs : List ℕ) (q k : ℕ) → covers (with_bytes m p bs) q k ≡ covers m q k
covers-with_bytes [] p bs q k = refl
covers-with_bytes (a ∷ m) p bs q k = at (lies a p (length bs)) refl (covers-with_bytes m p bs q k)
  where
    at : (b : Bool) → lies a p (length bs) ≡ b → covers (with_bytes m p bs) q k ≡ covers m q k → covers (cond b (written a p bs ∷ m) (a ∷ with_bytes m p bs)) q k ≡ (lies a q k || covers m q k)
    at true h e = ap (λ b. b || covers m q k) (lies-written a p bs q k h)
    at false h e = ap (λ b. lies a q k || b) e

-- areas that lie one above the other still do
pub rising-with_bytes : (m : List Area) (low p : ℕ) (bs : List ℕ) → IsRising low m → IsRising low (with_bytes m p bs)
rising-with_bytes [] low p bs r = r
rising-with_bytes (a ∷ m) low p bs r = at (lies a p (length bs)) refl (rising-with_bytes m (a.base + length a.bytes) p bs r.1)
  where
    at : (b : Bool) → lies a p (length bs) ≡ b → IsRising (a.base + length a.bytes) (with_bytes m p bs) → IsRising low (cond b (written a p bs ∷ m) (a ∷ with_bytes m p bs))
    at true h e = (r.0, subst (λ l. IsRising (a.base + l) m) (sym (length-written a p bs h)) r.1)
    at false h e = (r.0, e)

-- bytes stay bytes
pub of_bytes-with_bytes : (m : List Area) (p : ℕ) (bs : List ℕ) → AreBytes bs → IsOfBytes m → IsOfBytes (with_bytes m p bs)
of_bytes-with_bytes [] p bs s t = tt
of_bytes-with_bytes (a ∷ m) p bs s t = at (lies a p (length bs)) refl (of_bytes-with_bytes m p bs s t.1)
  where
    at : (b : Bool) → lies a p (length bs) ≡ b → IsOfBytes (with_bytes m p bs) → IsOfBytes (cond b (written a p bs ∷ m) (a ∷ with_bytes m p bs))
    at true h e = (small_splice a.bytes (p - a.base) bs (lies-end a p (length bs) h) t.0 s, t.1)
    at false h e = (t.0, e)

-- what was written is read
pub bytes_at-with_bytes_same : (m : List Area) (p : ℕ) (bs : List ℕ) → covers m p (length bs) ≡ true → bytes_at (with_bytes m p bs) p (length bs) ≡ bs
bytes_at-with_bytes_same [] p bs c = cc
bytes_at-with_bytes_same (a ∷ m) p bs c = at (lies a p (length bs)) refl c (bytes_at-with_bytes_same m p bs)
  where
    at : (b : Bool) → lies a p (length bs) ≡ b → (b || covers m p (length bs)) ≡ true → (covers m p (length bs) ≡ true → bytes_at (with_bytes m p bs) p (length bs) ≡ bs)
        → bytes_at (cond b (written a p bs ∷ m) (a ∷ with_bytes m p bs)) p (length bs) ≡ bs
    at true h c e =
        cond-true (lies (written a p bs) p (length bs)) (slab (written a p bs).bytes (p - a.base) (length bs)) (bytes_at m p (length bs)) (lies-written a p bs p (length bs) h ∙ h)
        ∙ slab-splice_same a.bytes (p - a.base) bs (lies-end a p (length bs) h)
    at false h c e = cond-false (lies a p (length bs)) (slab a.bytes (p - a.base) (length bs)) (bytes_at (with_bytes m p bs) p (length bs)) h ∙ e c

-- what shares no byte with it reads as before
pub bytes_at-with_bytes_apart : (m : List Area) (p : ℕ) (bs : List ℕ) (q k : ℕ) → (q + k ≤ p) ⊎ (p + length bs ≤ q) → bytes_at (with_bytes m p bs) q k ≡ bytes_at m q k
bytes_at-with_bytes_apart [] p bs q k d = refl
bytes_at-with_bytes_apart (a ∷ m) p bs q k d = at (lies a p (length bs)) refl (bytes_at-with_bytes_apart m p bs q k d)
  where
    here : (b : Bool) → lies a p (length bs) ≡ true → lies a q k ≡ b → cond b (slab (written a p bs).bytes (q - a.base) k) (bytes_at m q k) ≡ cond b (slab a.bytes (q - a.base) k) (bytes_at m q k)
    here true h g =
        let pb = lies-base a p (length bs) h in
        let qb = lies-base a q k g in
        slab-splice_apart a.bytes (p - a.base) bs (q - a.base) k (lies-end a p (length bs) h) (lies-end a q k g) (⊎_elim (λ x. inl (omega arith)) (λ x. inr (omega arith)) d)
    here false h g = refl

    at : (b : Bool) → lies a p (length bs) ≡ b → bytes_at (with_bytes m p bs) q k ≡ bytes_at m q k → bytes_at (cond b (written a p bs ∷ m) (a ∷ with_bytes m p bs)) q k ≡ bytes_at (a ∷ m) q k
    at true h e = ap (λ b. cond b (slab (written a p bs).bytes (q - a.base) k) (bytes_at m q k)) (lies-written a p bs q k h) ∙ here (lies a q k) h refl
    at false h e = ap (λ l. cond (lies a q k) (slab a.bytes (q - a.base) k) l) e

-- as many bytes as were asked for
pub length-bytes_at : (m : List Area) (p n : ℕ) → covers m p n ≡ true → length (bytes_at m p n) ≡ n
length-bytes_at [] p n c = cc
length-bytes_at (a ∷ m) p n c = at (lies a p n) refl c (length-bytes_at m p n)
  where
    at : (b : Bool) → lies a p n ≡ b → (b || covers m p n) ≡ true → (covers m p n ≡ true → length (bytes_at m p n) ≡ n) → length (cond b (slab a.bytes (p - a.base) n) (bytes_at m p n)) ≡ n
    at true h c e = length-slab a.bytes (p - a.base) n (lies-end a p n h)
    at false h c e = e c
