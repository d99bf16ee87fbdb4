-- Steps of loops over a block: copies, zeros, and reads.
use Rattle.std.proofs.Common.{◌≡◌, ℕ, ◌+◌, ◌-◌, ◌<◌, ◌≤◌, ◌⊎◌, List, ◌∷◌, length, get_or, replicate, true, arith, ap, ◌∙◌, false, w64}
use Rattle.std.proofs.lemmas.Bool.{cond-true, cond-false}
use Rattle.std.specs.Int.{from_le_bytes}
use Rattle.a64_memory.specs.Bytes.{slab}
use Rattle.a64_memory.specs.Memory.{Area, lies, covers, bytes_at, written, with_bytes, loaded8, loaded1, stored8, stored1, IsRising, IsOfBytes}
use Rattle.a64_memory.proofs.Slabs.{get_or-slab}
use Rattle.a64_memory.proofs.Stores.{covers-with_bytes, of_bytes-with_bytes}
use Rattle.a64_memory.proofs.Blocks.{covers-part, bytes_at-part, copy_more, stored8-loaded8, stored1-loaded1, of_bytes-bytes_at, zero_more}

-- a store changes the first area in which its bytes lie, and no other
pub with_bytes-first : (a : Area) (m : List Area) (p : ℕ) (bs : List ℕ) → lies a p (length bs) ≡ true → with_bytes (a ∷ m) p bs ≡ written a p bs ∷ m
with_bytes-first a m p bs h = cond-true (lies a p (length bs)) (written a p bs ∷ m) (a ∷ with_bytes m p bs) h

pub with_bytes-later : (a : Area) (m : List Area) (p : ℕ) (bs : List ℕ) → lies a p (length bs) ≡ false → with_bytes (a ∷ m) p bs ≡ a ∷ with_bytes m p bs
with_bytes-later a m p bs h = cond-false (lies a p (length bs)) (written a p bs ∷ m) (a ∷ with_bytes m p bs) h

-- a copy of n bytes from s to d of which i are done: eight bytes more, and one more
pub copy_more_8 : (m : List Area) (low d s i n : ℕ) → IsRising low m → IsOfBytes m → covers m d n ≡ true → covers m s n ≡ true → i + 8 ≤ n → (d ≤ s) ⊎ (s + n ≤ d)
    → stored8 (with_bytes m d (bytes_at m s i)) (d + i) (loaded8 (with_bytes m d (bytes_at m s i)) (s + i)) ≡ with_bytes m d (bytes_at m s (i + 8))
copy_more_8 m low d s i n r b cd cs l apart =
    let t = with_bytes m d (bytes_at m s i) in
    stored8-loaded8 t t (d + i) (s + i) (of_bytes-with_bytes m d (bytes_at m s i) (of_bytes-bytes_at m s i b) b)
    (covers-with_bytes m d (bytes_at m s i) (s + i) 8 ∙ covers-part m s n (s + i) 8 cs (omega arith) (omega arith))
    ∙ copy_more m low d s i 8 n r cd cs l apart

pub copy_more_1 : (m : List Area) (low d s i n : ℕ) → IsRising low m → IsOfBytes m → covers m d n ≡ true → covers m s n ≡ true → i + 1 ≤ n → (d ≤ s) ⊎ (s + n ≤ d)
    → stored1 (with_bytes m d (bytes_at m s i)) (d + i) (loaded1 (with_bytes m d (bytes_at m s i)) (s + i)) ≡ with_bytes m d (bytes_at m s (i + 1))
copy_more_1 m low d s i n r b cd cs l apart =
    let t = with_bytes m d (bytes_at m s i) in
    stored1-loaded1 t t (d + i) (s + i) (of_bytes-with_bytes m d (bytes_at m s i) (of_bytes-bytes_at m s i b) b)
    (covers-with_bytes m d (bytes_at m s i) (s + i) 1 ∙ covers-part m s n (s + i) 1 cs (omega arith) (omega arith))
    ∙ copy_more m low d s i 1 n r cd cs l apart

-- zeros from p on of which i are done: eight more
pub zero_more_8 : (m : List Area) (low p i : ℕ) → IsRising low m → covers m p (i + 8) ≡ true → stored8 (with_bytes m p (replicate i 0)) (p + i) 0 ≡ with_bytes m p (replicate (i + 8) 0)
zero_more_8 m low p i r c = zero_more m low p i 8 r c

-- byte i of a block of n, and the eight from it on
pub loaded1_in_block : (m : List Area) (low p n i : ℕ) → IsRising low m → covers m p n ≡ true → i < n → loaded1 m (p + i) ≡ get_or (bytes_at m p n) i 0
loaded1_in_block m low p n i r c l =
    let same : p + i - p ≡ i = omega arith in
    let none : i + 0 ≡ i = omega arith in
    ap (λ bs. get_or bs 0 0) (bytes_at-part m low p n (p + i) 1 r c (omega arith) (omega arith) ∙ ap (λ k. slab (bytes_at m p n) k 1) same)
    ∙ get_or-slab (bytes_at m p n) i 1 0 0 (omega arith) ∙ ap (λ k. get_or (bytes_at m p n) k 0) none

pub loaded8_in_block : (m : List Area) (low p n i : ℕ) → IsRising low m → covers m p n ≡ true → i + 8 ≤ n → loaded8 m (p + i) ≡ from_le_bytes w64 (slab (bytes_at m p n) i 8)
loaded8_in_block m low p n i r c l =
    let same : p + i - p ≡ i = omega arith in
    ap (from_le_bytes w64) (bytes_at-part m low p n (p + i) 8 r c (omega arith) (omega arith) ∙ ap (λ k. slab (bytes_at m p n) k 8) same)
