-- Blocks of bytes that lie in one area: parts of them, copies, and zeros.
use Rattle.std.proofs.Common.{◌≡◌, ℕ, zero, suc, ◌+◌, ◌-◌, ◌%◌, ◌^◌, ◌<◌, ◌≤◌, ◌⊎◌, ⊎_elim, inl, inr, List, [], ◌∷◌, ◌++◌, take, length, get_or, replicate, Bool, true, false, ◌||◌, cond, refl, arith, sym, ap, ap₂, ◌∙◌, mod-eq_of_lt, length-append, w64}
use Rattle.std.proofs.lemmas.Bool.{cond-true, cond-false}
use Rattle.std.proofs.lemmas.Bool.Decides.{nat_tests}
use Rattle.std.proofs.lemmas.List.{append-nil, length-replicate, replicate-append-replicate, drop-replicate, take-replicate}
use Rattle.std.proofs.lemmas.Nat.{le_bytes_8}
use Rattle.std.proofs.Math.Seq.{take-length}
use Rattle.std.specs.Int.{from_le_bytes}
use Rattle.a64_memory.specs.Bytes.{splice, slab}
use Rattle.a64_memory.specs.Memory.{Area, lies, covers, bytes_at, written, with_bytes, loaded8, loaded1, stored8, stored1, IsRising, AreBytes, IsOfBytes}
use Rattle.a64_memory.proofs.Slabs.{slab-slab, slab-splice_inside, slab-append_next, splice-splice_next, splice_none, slab_small}
use Rattle.a64_memory.proofs.Cells.{no_bytes}
use Rattle.a64_memory.proofs.Stores.{lies-base, lies-end, lies-written, bytes_at-with_bytes_apart, length-bytes_at}

lies-part : (a : Area) (p n q k : ℕ) → lies a p n ≡ true → p ≤ q → q + k ≤ p + n → lies a q k ≡ true
lies-part a p n q k h l g = grind (arith, nat_tests)

-- a part of a block lies in one area too
pub covers-part : (m : List Area) (p n q k : ℕ) → covers m p n ≡ true → p ≤ q → q + k ≤ p + n → covers m q k ≡ true
covers-part [] p n q k c l g = c
covers-part (a ∷ m) p n q k c l g = at (lies a p n) refl c (λ c. covers-part m p n q k c l g)
  where
    or_true : (b : Bool) → (b || true) ≡ true
    or_true true = refl
    or_true false = refl

    at : (b : Bool) → lies a p n ≡ b → (b || covers m p n) ≡ true → (covers m p n ≡ true → covers m q k ≡ true) → (lies a q k || covers m q k) ≡ true
    at true h c e = ap (λ b. b || covers m q k) (lies-part a p n q k h l g)
    at false h c e = ap (λ b. lies a q k || b) (e c) ∙ or_true (lies a q k)

-- no address in the areas is below low, and none reaches 2 ^ 64
pub covers-low : (m : List Area) (low p n : ℕ) → IsRising low m → covers m p n ≡ true → low ≤ p
covers-low [] low p n r c = cc
covers-low (a ∷ m) low p n r c = at (lies a p n) refl c (covers-low m (a.base + length a.bytes) p n r.1)
  where
    at : (b : Bool) → lies a p n ≡ b → (b || covers m p n) ≡ true → (covers m p n ≡ true → a.base + length a.bytes ≤ p) → low ≤ p
    at true h c e = let f = lies-base a p n h in let g = r.0 in omega arith
    at false h c e = let f = e c in let g = r.0 in omega arith

rising-top : (m : List Area) (low : ℕ) → IsRising low m → low ≤ 2 ^ 64
rising-top [] low r = r
rising-top (a ∷ m) low r = let e = rising-top m (a.base + length a.bytes) r.1 in let g = r.0 in omega arith

pub covers-top : (m : List Area) (low p n : ℕ) → IsRising low m → covers m p n ≡ true → p + n ≤ 2 ^ 64
covers-top [] low p n r c = cc
covers-top (a ∷ m) low p n r c = at (lies a p n) refl c (covers-top m (a.base + length a.bytes) p n r.1)
  where
    at : (b : Bool) → lies a p n ≡ b → (b || covers m p n) ≡ true → (covers m p n ≡ true → p + n ≤ 2 ^ 64) → p + n ≤ 2 ^ 64
    at true h c e = let f = lies-base a p n h in let g = lies-end a p n h in let t = rising-top m (a.base + length a.bytes) r.1 in omega arith
    at false h c e = e c

-- what lies in an area above doesn't lie in this one
lies-not : (a : Area) (m : List Area) (p n q k : ℕ) → IsRising (a.base + length a.bytes) m → covers m p n ≡ true → p ≤ q → 0 < k → lies a q k ≡ false
lies-not a m p n q k r c l z = let f = covers-low m (a.base + length a.bytes) p n r c in grind (arith, nat_tests)

bytes_at_none : (m : List Area) (q : ℕ) → bytes_at m q 0 ≡ []
bytes_at_none [] q = refl
bytes_at_none (a ∷ m) q = at (lies a q 0) (bytes_at_none m q)
  where
    at : (b : Bool) → bytes_at m q 0 ≡ [] → cond b (slab a.bytes (q - a.base) 0) (bytes_at m q 0) ≡ []
    at true e = refl
    at false e = e

some_part : (m : List Area) (low p n q k : ℕ) → IsRising low m → covers m p n ≡ true → p ≤ q → q + k ≤ p + n → 0 < k → bytes_at m q k ≡ slab (bytes_at m p n) (q - p) k
some_part [] low p n q k r c l g z = cc
some_part (a ∷ m) low p n q k r c l g z = at (lies a p n) refl c (λ c. some_part m (a.base + length a.bytes) p n q k r.1 c l g z)
  where
    at : (b : Bool) → lies a p n ≡ b → (b || covers m p n) ≡ true → (covers m p n ≡ true → bytes_at m q k ≡ slab (bytes_at m p n) (q - p) k)
        → bytes_at (a ∷ m) q k ≡ slab (cond b (slab a.bytes (p - a.base) n) (bytes_at m p n)) (q - p) k
    at true h c e =
        let f = lies-base a p n h in
        let same : q - a.base ≡ p - a.base + (q - p) = omega arith in
        cond-true (lies a q k) (slab a.bytes (q - a.base) k) (bytes_at m q k) (lies-part a p n q k h l g)
        ∙ ap (λ i. slab a.bytes i k) same ∙ sym (slab-slab a.bytes (p - a.base) n (q - p) k (omega arith))
    at false h c e = cond-false (lies a q k) (slab a.bytes (q - a.base) k) (bytes_at m q k) (lies-not a m p n q k r.1 c l z) ∙ e c

-- a part of a block reads as that part of its bytes
pub bytes_at-part : (m : List Area) (low p n q k : ℕ) → IsRising low m → covers m p n ≡ true → p ≤ q → q + k ≤ p + n → bytes_at m q k ≡ slab (bytes_at m p n) (q - p) k
bytes_at-part m low p n q zero r c l g = bytes_at_none m q
bytes_at-part m low p n q (suc k) r c l g = some_part m low p n q (suc k) r c l g (omega arith)

some_written : (m : List Area) (low p n q : ℕ) (bs : List ℕ) → IsRising low m → covers m p n ≡ true → p ≤ q → q + length bs ≤ p + n → 0 < length bs → bytes_at (with_bytes m q bs) p n ≡ splice (bytes_at m p n) (q - p) bs
some_written [] low p n q bs r c l g z = cc
some_written (a ∷ m) low p n q bs r c l g z = at (lies a p n) refl c (λ c. some_written m (a.base + length a.bytes) p n q bs r.1 c l g z)
  where
    at : (b : Bool) → lies a p n ≡ b → (b || covers m p n) ≡ true → (covers m p n ≡ true → bytes_at (with_bytes m q bs) p n ≡ splice (bytes_at m p n) (q - p) bs)
        → bytes_at (with_bytes (a ∷ m) q bs) p n ≡ splice (cond b (slab a.bytes (p - a.base) n) (bytes_at m p n)) (q - p) bs
    at true h c e =
        let f = lies-base a p n h in
        let u = lies-end a p n h in
        let inside = lies-part a p n q (length bs) h l g in
        let same : q - a.base ≡ p - a.base + (q - p) = omega arith in
        ap (λ m. bytes_at m p n) (cond-true (lies a q (length bs)) (written a q bs ∷ m) (a ∷ with_bytes m q bs) inside)
        ∙ cond-true (lies (written a q bs) p n) (slab (written a q bs).bytes (p - a.base) n) (bytes_at m p n) (lies-written a q bs p n inside ∙ h)
        ∙ ap (λ i. slab (splice a.bytes i bs) (p - a.base) n) same
        ∙ slab-splice_inside a.bytes (p - a.base) n (q - p) bs (omega arith) u
    at false h c e =
        ap (λ m. bytes_at m p n) (cond-false (lies a q (length bs)) (written a q bs ∷ m) (a ∷ with_bytes m q bs) (lies-not a m p n q (length bs) r.1 c l z))
        ∙ cond-false (lies a p n) (slab a.bytes (p - a.base) n) (bytes_at (with_bytes m q bs) p n) h ∙ e c

-- no bytes change nothing
pub with_bytes-none_given : (m : List Area) (p : ℕ) → with_bytes m p [] ≡ m
with_bytes-none_given [] p = refl
with_bytes-none_given (a ∷ m) p = at (lies a p 0) (with_bytes-none_given m p)
  where
    at : (b : Bool) → with_bytes m p [] ≡ m → cond b (written a p [] ∷ m) (a ∷ with_bytes m p []) ≡ a ∷ m
    at true e = ap (λ l. record a { bytes = l } ∷ m) (splice_none a.bytes (p - a.base))
    at false e = ap (λ l. a ∷ l) e

-- a store into a block changes that part of its bytes
pub bytes_at-with_bytes_part : (m : List Area) (low p n q : ℕ) (bs : List ℕ) → IsRising low m → covers m p n ≡ true → p ≤ q → q + length bs ≤ p + n → bytes_at (with_bytes m q bs) p n ≡ splice (bytes_at m p n) (q - p) bs
bytes_at-with_bytes_part m low p n q [] r c l g = ap (λ m. bytes_at m p n) (with_bytes-none_given m q) ∙ sym (splice_none (bytes_at m p n) (q - p))
bytes_at-with_bytes_part m low p n q (b ∷ bs) r c l g = some_written m low p n q (b ∷ bs) r c l g (omega arith)

next_area : (a : Area) (m : List Area) (low p : ℕ) (xs ys : List ℕ) → lies a p (length xs + length ys) ≡ true → with_bytes (with_bytes (a ∷ m) p xs) (p + length xs) ys ≡ with_bytes (a ∷ m) p (xs ++ ys)
next_area a m low p xs ys h =
    let f = lies-base a p (length xs + length ys) h in
    let u = lies-end a p (length xs + length ys) h in
    let hx = lies-part a p (length xs + length ys) p (length xs) h (omega arith) (omega arith) in
    let hy = lies-part a p (length xs + length ys) (p + length xs) (length ys) h (omega arith) (omega arith) in
    let hz : lies a p (length (xs ++ ys)) ≡ true = ap (lies a p) (length-append xs ys) ∙ h in
    let same : p + length xs - a.base ≡ p - a.base + length xs = omega arith in
    ap (λ m. with_bytes m (p + length xs) ys) (cond-true (lies a p (length xs)) (written a p xs ∷ m) (a ∷ with_bytes m p xs) hx)
    ∙ cond-true (lies (written a p xs) (p + length xs) (length ys)) (written (written a p xs) (p + length xs) ys ∷ m) (written a p xs ∷ with_bytes m (p + length xs) ys) (lies-written a p xs (p + length xs) (length ys) hx ∙ hy)
    ∙ ap (λ l. record { base = a.base; bytes = l } ∷ m) (ap (λ i. splice (splice a.bytes (p - a.base) xs) i ys) same ∙ splice-splice_next a.bytes (p - a.base) xs ys (omega arith))
    ∙ sym (cond-true (lies a p (length (xs ++ ys))) (written a p (xs ++ ys) ∷ m) (a ∷ with_bytes m p (xs ++ ys)) hz)

some_next : (m : List Area) (low p : ℕ) (xs ys : List ℕ) → 0 < length xs → 0 < length ys → IsRising low m → covers m p (length xs + length ys) ≡ true → with_bytes (with_bytes m p xs) (p + length xs) ys ≡ with_bytes m p (xs ++ ys)
some_next [] low p xs ys x y r c = refl
some_next (a ∷ m) low p xs ys x y r c = at (lies a p (length xs + length ys)) refl c (λ c. some_next m (a.base + length a.bytes) p xs ys x y r.1 c)
  where
    n : ℕ
    n = length xs + length ys

    at : (b : Bool) → lies a p (length xs + length ys) ≡ b → (b || covers m p (length xs + length ys)) ≡ true
        → (covers m p (length xs + length ys) ≡ true → with_bytes (with_bytes m p xs) (p + length xs) ys ≡ with_bytes m p (xs ++ ys))
        → with_bytes (with_bytes (a ∷ m) p xs) (p + length xs) ys ≡ with_bytes (a ∷ m) p (xs ++ ys)
    at true h c e = next_area a m low p xs ys h
    at false h c e =
        let hx = lies-not a m p (length xs + length ys) p (length xs) r.1 c (omega arith) x in
        let hy = lies-not a m p (length xs + length ys) (p + length xs) (length ys) r.1 c (omega arith) y in
        let hz = lies-not a m p (length xs + length ys) p (length (xs ++ ys)) r.1 c (omega arith) (omega (arith, length-append xs ys)) in
        ap (λ m. with_bytes m (p + length xs) ys) (cond-false (lies a p (length xs)) (written a p xs ∷ m) (a ∷ with_bytes m p xs) hx)
        ∙ cond-false (lies a (p + length xs) (length ys)) (written a (p + length xs) ys ∷ with_bytes m p xs) (a ∷ with_bytes (with_bytes m p xs) (p + length xs) ys) hy
        ∙ ap (λ l. a ∷ l) (e c)
        ∙ sym (cond-false (lies a p (length (xs ++ ys))) (written a p (xs ++ ys) ∷ m) (a ∷ with_bytes m p (xs ++ ys)) hz)

-- two stores side by side in a block are one
pub with_bytes-with_bytes_next : (m : List Area) (low p : ℕ) (xs ys : List ℕ) → IsRising low m → covers m p (length xs + length ys) ≡ true → with_bytes (with_bytes m p xs) (p + length xs) ys ≡ with_bytes m p (xs ++ ys)
with_bytes-with_bytes_next m low p [] ys r c = let z : p + 0 ≡ p = omega arith in ap₂ (λ t q. with_bytes t q ys) (with_bytes-none_given m p) z
with_bytes-with_bytes_next m low p (x ∷ xs) [] r c = with_bytes-none_given (with_bytes m p (x ∷ xs)) (p + length (x ∷ xs)) ∙ ap (with_bytes m p) (sym (append-nil (x ∷ xs)))
with_bytes-with_bytes_next m low p (x ∷ xs) (y ∷ ys) r c = some_next m low p (x ∷ xs) (y ∷ ys) (omega arith) (omega arith) r c

-- two loads side by side in a block are one
pub bytes_at-append_next : (m : List Area) (low s i w : ℕ) → IsRising low m → covers m s (i + w) ≡ true → bytes_at m s i ++ bytes_at m (s + i) w ≡ bytes_at m s (i + w)
bytes_at-append_next m low s i w r c =
    let all = bytes_at m s (i + w) in
    let none : s - s ≡ 0 = omega arith in
    let some : s + i - s ≡ 0 + i = omega arith in
    ap₂ (λ a b. a ++ b)
    (bytes_at-part m low s (i + w) s i r c (omega arith) (omega arith) ∙ ap (λ k. slab all k i) none)
    (bytes_at-part m low s (i + w) (s + i) w r c (omega arith) (omega arith) ∙ ap (λ k. slab all k w) some)
    ∙ slab-append_next all 0 i w
    ∙ ap (λ k. take k all) (sym (length-bytes_at m s (i + w) c)) ∙ take-length all

-- a step of a copy of n bytes from s to d, lowest first: i are done, and w more read no byte that was written
pub copy_more : (m : List Area) (low d s i w n : ℕ) → IsRising low m → covers m d n ≡ true → covers m s n ≡ true → i + w ≤ n → (d ≤ s) ⊎ (s + n ≤ d)
    → with_bytes (with_bytes m d (bytes_at m s i)) (d + i) (bytes_at (with_bytes m d (bytes_at m s i)) (s + i) w) ≡ with_bytes m d (bytes_at m s (i + w))
copy_more m low d s i w n r cd cs l apart =
    let c = covers-part m s n s (i + w) cs (omega arith) (omega arith) in
    let li : length (bytes_at m s i) ≡ i = length-bytes_at m s i (covers-part m s n s i cs (omega arith) (omega arith)) in
    let lw : length (bytes_at m (s + i) w) ≡ w = length-bytes_at m (s + i) w (covers-part m s n (s + i) w cs (omega arith) (omega arith)) in
    let t = with_bytes m d (bytes_at m s i) in
    ap (with_bytes t (d + i)) (bytes_at-with_bytes_apart m d (bytes_at m s i) (s + i) w (⊎_elim (λ x. inr (omega arith)) (λ x. inl (omega arith)) apart))
    ∙ ap (λ k. with_bytes t (d + k) (bytes_at m (s + i) w)) (sym li)
    ∙ with_bytes-with_bytes_next m low d (bytes_at m s i) (bytes_at m (s + i) w) r (covers-part m d n d (length (bytes_at m s i) + length (bytes_at m (s + i) w)) cd (omega arith) (omega arith))
    ∙ ap (with_bytes m d) (bytes_at-append_next m low s i w r c)

-- a block of a memory of bytes has bytes
pub of_bytes-bytes_at : (m : List Area) (p n : ℕ) → IsOfBytes m → AreBytes (bytes_at m p n)
of_bytes-bytes_at [] p n s = no_bytes
of_bytes-bytes_at (a ∷ m) p n s = at (lies a p n) (of_bytes-bytes_at m p n s.1)
  where
    at : (b : Bool) → AreBytes (bytes_at m p n) → AreBytes (cond b (slab a.bytes (p - a.base) n) (bytes_at m p n))
    at true e = slab_small a.bytes (p - a.base) n s.0
    at false e = e

-- bytes that are moved as a number are moved as they are
pub stored8-loaded8 : (m t : List Area) (p q : ℕ) → IsOfBytes m → covers m q 8 ≡ true → stored8 t p (loaded8 m q) ≡ with_bytes t p (bytes_at m q 8)
stored8-loaded8 m t p q s c = ap (with_bytes t p) (le_bytes_8 (bytes_at m q 8) (loaded8 m q) (length-bytes_at m q 8 c) (of_bytes-bytes_at m q 8 s) refl)

one_byte : (bs : List ℕ) → length bs ≡ 1 → AreBytes bs → get_or bs 0 0 % 2 ^ 8 ∷ [] ≡ bs
one_byte [] l s = absurd (omega arith)
one_byte (b ∷ []) l s = let h = s 0 in ap (λ n. n ∷ []) (mod-eq_of_lt h)
one_byte (b ∷ c ∷ bs) l s = absurd (omega arith)

pub stored1-loaded1 : (m t : List Area) (p q : ℕ) → IsOfBytes m → covers m q 1 ≡ true → stored1 t p (loaded1 m q) ≡ with_bytes t p (bytes_at m q 1)
stored1-loaded1 m t p q s c = ap (with_bytes t p) (one_byte (bytes_at m q 1) (length-bytes_at m q 1 c) (of_bytes-bytes_at m q 1 s))

-- loads of a memory of bytes are numbers of their width
pub loaded1_lt : (m : List Area) (p : ℕ) → IsOfBytes m → loaded1 m p < 2 ^ 8
loaded1_lt m p s = of_bytes-bytes_at m p 1 s 0

pub loaded8_lt : (m : List Area) (p : ℕ) → IsOfBytes m → loaded8 m p < 2 ^ 64
loaded8_lt m p s =
    let b = of_bytes-bytes_at m p 8 s in
    let b0 = b 0 in let b1 = b 1 in let b2 = b 2 in let b3 = b 3 in let b4 = b 4 in let b5 = b 5 in let b6 = b 6 in let b7 = b 7 in
    omega (arith, b0, b1, b2, b3, b4, b5, b6, b7)

-- zeros: eight of them are the number 0, and zeros side by side are one block of them
pub stored8_zero : (m : List Area) (p : ℕ) → stored8 m p 0 ≡ with_bytes m p (replicate 8 0)
stored8_zero m p = refl

pub loaded8_zero : (m : List Area) (p : ℕ) → bytes_at m p 8 ≡ replicate 8 0 → loaded8 m p ≡ 0
loaded8_zero m p e = ap (from_le_bytes w64) e

pub zero_more : (m : List Area) (low p i w : ℕ) → IsRising low m → covers m p (i + w) ≡ true → with_bytes (with_bytes m p (replicate i 0)) (p + i) (replicate w 0) ≡ with_bytes m p (replicate (i + w) 0)
zero_more m low p i w r c =
    ap (λ k. with_bytes (with_bytes m p (replicate i 0)) (p + k) (replicate w 0)) (sym (length-replicate {A = ℕ} i 0))
    ∙ with_bytes-with_bytes_next m low p (replicate i 0) (replicate w 0) r (ap₂ (λ a b. covers m p (a + b)) (length-replicate {A = ℕ} i 0) (length-replicate {A = ℕ} w 0) ∙ c)
    ∙ ap (with_bytes m p) (replicate-append-replicate i w 0)

-- each cell in a block of zeros is the number 0
pub loaded8_in_zeros : (m : List Area) (low p n q : ℕ) → IsRising low m → covers m p n ≡ true → bytes_at m p n ≡ replicate n 0 → p ≤ q → q + 8 ≤ p + n → loaded8 m q ≡ 0
loaded8_in_zeros m low p n q r c e l g =
    loaded8_zero m q (bytes_at-part m low p n q 8 r c l g ∙ ap (λ bs. slab bs (q - p) 8) e ∙ ap (take 8) (drop-replicate (q - p) n 0) ∙ take-replicate 8 (n - (q - p)) 0 (omega arith))
