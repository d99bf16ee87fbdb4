-- One area among others: what is read and stored in it, and beside it. The areas lie in the list xs ++ s ∷ ys.
use Rattle.std.proofs.Common.{◌≡◌, ℕ, ◌+◌, ◌-◌, ◌<◌, ◌≤◌, List, [], ◌∷◌, ◌++◌, length, Bool, true, false, ◌||◌, cond, refl, arith, sym, ap, ◌∙◌}
use Rattle.std.proofs.lemmas.Bool.Decides.{nat_tests}
use Rattle.a64_memory.specs.Bytes.{slab}
use Rattle.a64_memory.specs.Memory.{Area, lies, covers, bytes_at, written, with_bytes, IsRising}
use Rattle.a64_memory.proofs.Blocks.{covers-low}
use Rattle.a64_memory.proofs.Stores.{lies-base, lies-end}

or_left : (a b : Bool) → (a || b) ≡ false → a ≡ false
or_left true b e = e
or_left false b e = refl

or_right : (a b : Bool) → (a || b) ≡ false → b ≡ false
or_right true b e = cc
or_right false b e = e

or_true : (b : Bool) → (b || true) ≡ true
or_true true = refl
or_true false = refl

-- bytes that lie in the area s, and in none before it
pub covers_among : (xs ys : List Area) (s : Area) (p n : ℕ) → lies s p n ≡ true → covers (xs ++ s ∷ ys) p n ≡ true
covers_among [] ys s p n h = ap (λ b. b || covers ys p n) h
covers_among (a ∷ xs) ys s p n h = ap (λ b. lies a p n || b) (covers_among xs ys s p n h) ∙ or_true (lies a p n)

pub bytes_among : (xs ys : List Area) (s : Area) (p n : ℕ) → covers xs p n ≡ false → lies s p n ≡ true → bytes_at (xs ++ s ∷ ys) p n ≡ bytes_at (s ∷ []) p n
bytes_among [] ys s p n c h = ap (λ b. cond b (slab s.bytes (p - s.base) n) (bytes_at ys p n)) h ∙ sym (ap (λ b. cond b (slab s.bytes (p - s.base) n) []) h)
bytes_among (a ∷ xs) ys s p n c h =
    ap (λ b. cond b (slab a.bytes (p - a.base) n) (bytes_at (xs ++ s ∷ ys) p n)) (or_left (lies a p n) (covers xs p n) c)
    ∙ bytes_among xs ys s p n (or_right (lies a p n) (covers xs p n) c) h

pub store_among : (xs ys : List Area) (s : Area) (p : ℕ) (bs : List ℕ) → covers xs p (length bs) ≡ false → lies s p (length bs) ≡ true → with_bytes (xs ++ s ∷ ys) p bs ≡ xs ++ written s p bs ∷ ys
store_among [] ys s p bs c h = ap (λ b. cond b (written s p bs ∷ ys) (s ∷ with_bytes ys p bs)) h
store_among (a ∷ xs) ys s p bs c h =
    ap (λ b. cond b (written a p bs ∷ (xs ++ s ∷ ys)) (a ∷ with_bytes (xs ++ s ∷ ys) p bs)) (or_left (lies a p (length bs)) (covers xs p (length bs)) c)
    ∙ ap (λ (m : List Area). a ∷ m) (store_among xs ys s p bs (or_right (lies a p (length bs)) (covers xs p (length bs)) c) h)

-- bytes that don't lie in it
pub covers_beside : (xs ys : List Area) (s : Area) (p n : ℕ) → lies s p n ≡ false → covers (xs ++ s ∷ ys) p n ≡ covers (xs ++ ys) p n
covers_beside [] ys s p n h = ap (λ b. b || covers ys p n) h
covers_beside (a ∷ xs) ys s p n h = ap (λ b. lies a p n || b) (covers_beside xs ys s p n h)

pub bytes_beside : (xs ys : List Area) (s : Area) (p n : ℕ) → lies s p n ≡ false → bytes_at (xs ++ s ∷ ys) p n ≡ bytes_at (xs ++ ys) p n
bytes_beside [] ys s p n h = ap (λ b. cond b (slab s.bytes (p - s.base) n) (bytes_at ys p n)) h
bytes_beside (a ∷ xs) ys s p n h = ap (λ bs. cond (lies a p n) (slab a.bytes (p - a.base) n) bs) (bytes_beside xs ys s p n h)

-- a store beside s: what the other areas become, with s and without
pub record Beside (xs ys : List Area) (s : Area) (p : ℕ) (bs : List ℕ) : Type 0 where
  pub below : List Area
  pub above : List Area
  pub without : with_bytes (xs ++ ys) p bs ≡ below ++ above
  pub among : with_bytes (xs ++ s ∷ ys) p bs ≡ below ++ s ∷ above

pub store_beside : (xs ys : List Area) (s : Area) (p : ℕ) (bs : List ℕ) → lies s p (length bs) ≡ false → Beside xs ys s p bs
store_beside [] ys s p bs h = record { below = []; above = with_bytes ys p bs; without = refl; among = ap (λ b. cond b (written s p bs ∷ ys) (s ∷ with_bytes ys p bs)) h }
store_beside (a ∷ xs) ys s p bs h = at (lies a p (length bs)) refl (store_beside xs ys s p bs h)
  where
    at : (b : Bool) → lies a p (length bs) ≡ b → Beside xs ys s p bs → Beside (a ∷ xs) ys s p bs
    at true e r = record {
      below = written a p bs ∷ xs;
      above = ys;
      without = ap (λ b. cond b (written a p bs ∷ (xs ++ ys)) (a ∷ with_bytes (xs ++ ys) p bs)) e;
      among = ap (λ b. cond b (written a p bs ∷ (xs ++ s ∷ ys)) (a ∷ with_bytes (xs ++ s ∷ ys) p bs)) e;
    }
    at false e r = record {
      below = a ∷ r.below;
      above = r.above;
      without = ap (λ b. cond b (written a p bs ∷ (xs ++ ys)) (a ∷ with_bytes (xs ++ ys) p bs)) e ∙ ap (λ (m : List Area). a ∷ m) r.without;
      among = ap (λ b. cond b (written a p bs ∷ (xs ++ s ∷ ys)) (a ∷ with_bytes (xs ++ s ∷ ys) p bs)) e ∙ ap (λ (m : List Area). a ∷ m) r.among;
    }

-- in areas that lie one above the other an address is in one
pub rising_base : (xs ys : List Area) (s : Area) (low : ℕ) → IsRising low (xs ++ s ∷ ys) → low ≤ s.base
rising_base [] ys s low r = r.0
rising_base (a ∷ xs) ys s low r = let e = rising_base xs ys s (a.base + length a.bytes) r.1 in let f = r.0 in omega arith

pub in_area : (xs ys : List Area) (s : Area) (low p n : ℕ) → IsRising low (xs ++ s ∷ ys) → lies s p n ≡ true → 0 < n → covers xs p n ≡ false
in_area [] ys s low p n r h z = refl
in_area (a ∷ xs) ys s low p n r h z =
    let e = rising_base xs ys s (a.base + length a.bytes) r.1 in
    let f = lies-base s p n h in
    let here : lies a p n ≡ false = grind (arith, nat_tests) in
    ap (λ b. b || covers xs p n) here ∙ in_area xs ys s (a.base + length a.bytes) p n r.1 h z

pub not_in_area : (xs ys : List Area) (s : Area) (low p n : ℕ) → IsRising low (xs ++ s ∷ ys) → covers (xs ++ ys) p n ≡ true → 0 < n → lies s p n ≡ false
not_in_area [] ys s low p n r c z = let e = covers-low ys (s.base + length s.bytes) p n r.1 c in grind (arith, nat_tests)
not_in_area (a ∷ xs) ys s low p n r c z = at (lies a p n) refl c (λ c. not_in_area xs ys s (a.base + length a.bytes) p n r.1 c z)
  where
    at : (b : Bool) → lies a p n ≡ b → (b || covers (xs ++ ys) p n) ≡ true → (covers (xs ++ ys) p n ≡ true → lies s p n ≡ false) → lies s p n ≡ false
    at true e c on =
        let f = rising_base xs ys s (a.base + length a.bytes) r.1 in
        let g = lies-base a p n e in let i = lies-end a p n e in
        grind (arith, nat_tests)
    at false e c on = on c
