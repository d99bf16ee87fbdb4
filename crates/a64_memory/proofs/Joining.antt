-- Chunks one after the other: where a byte of all of them is.
use Rattle.std.proofs.Common.{◌≡◌, ℕ, zero, suc, ◌+◌, ◌-◌, ◌*◌, ◌/◌, ◌%◌, ◌<◌, ◌≤◌, List, [], ◌∷◌, ◌++◌, take, length, replicate, get_or, slice_index_or, slice_set, refl, arith, sym, ap, ap₂, ◌∙◌, ⊎_elim, length-append, w64}
use Rattle.std.specs.Int.{from_le_bytes}
use Rattle.std.proofs.lemmas.Bool.{cases_lt}
use Rattle.std.proofs.lemmas.List.{get_or_append_left, get_or-append_right, replicate-append-replicate, take-replicate, length-take-le}
use Rattle.std.proofs.Math.Seq.{take-add}
use Rattle.a64_memory.specs.Bytes.{splice, slab}
use Rattle.a64_memory.specs.Chunks.{padded, joined, AreOfLength}
use Rattle.a64_memory.proofs.Slabs.{length-splice, length-slab, splice-splice_next, get_or-slab, slab-append_left, slab-append_right, splice-append_left, splice-append_right}
use Rattle.a64_memory.proofs.Padding.{padded_none, length-padded}

-- zeros
pub joined_zeros : (n count : ℕ) → joined (replicate count (padded n [])) ≡ replicate (n * count) 0
joined_zeros n zero = let none : n * 0 ≡ 0 = omega arith in sym (ap (λ k. replicate k 0) none)
joined_zeros n (suc count) =
    let more : n + n * count ≡ n * suc count = omega arith in
    ap₂ (λ x y. x ++ y) (padded_none n) (joined_zeros n count) ∙ replicate-append-replicate n (n * count) 0 ∙ ap (λ k. replicate k 0) more

pub even_zeros : (n count : ℕ) → AreOfLength n (replicate count (padded n []))
even_zeros n zero = tt
even_zeros n (suc count) = (length-padded n [] (omega arith), even_zeros n count)

pub zeros_joined : (n count size : ℕ) → size ≤ n * count → take size (joined (replicate count (padded n []))) ≡ replicate size 0
zeros_joined n count size l = ap (take size) (joined_zeros n count) ∙ take-replicate size (n * count) 0 l

-- the chunks of a region
pub length-joined : (cs : List (List ℕ)) → AreOfLength 1048576 cs → length (joined cs) ≡ 1048576 * length cs
length-joined [] e = refl
length-joined (c ∷ cs) e = let here = e.0 in let rest = length-joined cs e.1 in omega (arith, length-append c (joined cs), here, rest)

-- a byte
pub get_or-joined : (cs : List (List ℕ)) (at : ℕ) (d : List ℕ) → AreOfLength 1048576 cs → at < 1048576 * length cs → get_or (joined cs) at 0 ≡ get_or (slice_index_or cs (at / 1048576) d) (at % 1048576) 0
get_or-joined [] at d e l = absurd (omega arith)
get_or-joined (c ∷ cs) at d e l = ⊎_elim
    (λ (h : at < 1048576).
    let here = e.0 in
    let k : at / 1048576 ≡ 0 = omega arith in
    let j : at % 1048576 ≡ at = omega arith in
    get_or_append_left c (joined cs) 0 at (omega arith) ∙ ap₂ (λ k j. get_or (slice_index_or (c ∷ cs) k d) j 0) (sym k) (sym j))
    (λ (h : 1048576 ≤ at).
    let here = e.0 in
    let k : at / 1048576 ≡ suc ((at - 1048576) / 1048576) = omega arith in
    let j : at % 1048576 ≡ (at - 1048576) % 1048576 = omega arith in
    get_or-append_right c (joined cs) 1048576 at 0 here h
    ∙ get_or-joined cs (at - 1048576) d e.1 (omega arith)
    ∙ ap₂ (λ k j. get_or (slice_index_or (c ∷ cs) k d) j 0) (sym k) (sym j))
    (cases_lt at 1048576)

-- a number of eight bytes, byte by byte
pub number_of_bytes : (m : List ℕ) (at b0 b1 b2 b3 b4 b5 b6 b7 : ℕ) → b0 ≡ get_or m at 0 → b1 ≡ get_or m (at + 1) 0 → b2 ≡ get_or m (at + 2) 0 → b3 ≡ get_or m (at + 3) 0
    → b4 ≡ get_or m (at + 4) 0 → b5 ≡ get_or m (at + 5) 0 → b6 ≡ get_or m (at + 6) 0 → b7 ≡ get_or m (at + 7) 0
    → from_le_bytes w64 (b0 ∷ b1 ∷ b2 ∷ b3 ∷ b4 ∷ b5 ∷ b6 ∷ b7 ∷ []) ≡ from_le_bytes w64 (slab m at 8)
number_of_bytes m at b0 b1 b2 b3 b4 b5 b6 b7 e0 e1 e2 e3 e4 e5 e6 e7 =
    let none : at + 0 ≡ at = omega arith in
    let f0 = get_or-slab m at 8 0 0 (omega arith) ∙ ap (λ i. get_or m i 0) none in
    let f1 = get_or-slab m at 8 1 0 (omega arith) in
    let f2 = get_or-slab m at 8 2 0 (omega arith) in
    let f3 = get_or-slab m at 8 3 0 (omega arith) in
    let f4 = get_or-slab m at 8 4 0 (omega arith) in
    let f5 = get_or-slab m at 8 5 0 (omega arith) in
    let f6 = get_or-slab m at 8 6 0 (omega arith) in
    let f7 = get_or-slab m at 8 7 0 (omega arith) in
    omega (arith, f0, f1, f2, f3, f4, f5, f6, f7)

-- bytes in one chunk
pub slab-joined : (cs : List (List ℕ)) (at n : ℕ) (d : List ℕ) → AreOfLength 1048576 cs → at < 1048576 * length cs → at % 1048576 + n ≤ 1048576 → slab (joined cs) at n ≡ slab (slice_index_or cs (at / 1048576) d) (at % 1048576) n
slab-joined [] at n d e l g = absurd (omega arith)
slab-joined (c ∷ cs) at n d e l g = ⊎_elim
    (λ (h : at < 1048576).
    let here = e.0 in
    let k : at / 1048576 ≡ 0 = omega arith in
    let j : at % 1048576 ≡ at = omega arith in
    slab-append_left c (joined cs) at n (omega arith) ∙ ap₂ (λ k j. slab (slice_index_or (c ∷ cs) k d) j n) (sym k) (sym j))
    (λ (h : 1048576 ≤ at).
    let here = e.0 in
    let k : at / 1048576 ≡ suc ((at - 1048576) / 1048576) = omega arith in
    let j : at % 1048576 ≡ (at - 1048576) % 1048576 = omega arith in
    let sum : at ≡ length c + (at - 1048576) = omega arith in
    ap (λ i. slab (c ++ joined cs) i n) sum ∙ slab-append_right c (joined cs) (at - 1048576) n
    ∙ slab-joined cs (at - 1048576) n d e.1 (omega arith) (omega arith)
    ∙ ap₂ (λ k j. slab (slice_index_or (c ∷ cs) k d) j n) (sym k) (sym j))
    (cases_lt at 1048576)

-- bytes stored into one chunk
pub splice-joined : (cs : List (List ℕ)) (at : ℕ) (bs d : List ℕ) → AreOfLength 1048576 cs → at < 1048576 * length cs → at % 1048576 + length bs ≤ 1048576
    → joined (slice_set cs (at / 1048576) (splice (slice_index_or cs (at / 1048576) d) (at % 1048576) bs)) ≡ splice (joined cs) at bs
splice-joined [] at bs d e l g = absurd (omega arith)
splice-joined (c ∷ cs) at bs d e l g = ⊎_elim
    (λ (h : at < 1048576).
    let here = e.0 in
    let k : at / 1048576 ≡ 0 = omega arith in
    let j : at % 1048576 ≡ at = omega arith in
    ap₂ (λ k j. joined (slice_set (c ∷ cs) k (splice (slice_index_or (c ∷ cs) k d) j bs))) k j ∙ sym (splice-append_left c (joined cs) at bs (omega arith)))
    (λ (h : 1048576 ≤ at).
    let here = e.0 in
    let k : at / 1048576 ≡ suc ((at - 1048576) / 1048576) = omega arith in
    let j : at % 1048576 ≡ (at - 1048576) % 1048576 = omega arith in
    let sum : at ≡ length c + (at - 1048576) = omega arith in
    ap₂ (λ k j. joined (slice_set (c ∷ cs) k (splice (slice_index_or (c ∷ cs) k d) j bs))) k j
    ∙ ap (λ l. c ++ l) (splice-joined cs (at - 1048576) bs d e.1 (omega arith) (omega arith))
    ∙ sym (splice-append_right c (joined cs) (at - 1048576) bs) ∙ ap (λ i. splice (c ++ joined cs) i bs) (sym sum))
    (cases_lt at 1048576)

-- a chunk of the same length keeps them even
pub even_set : (n : ℕ) (cs : List (List ℕ)) (k : ℕ) (c : List ℕ) → AreOfLength n cs → length c ≡ n → AreOfLength n (slice_set cs k c)
even_set n [] k c e l = tt
even_set n (x ∷ cs) zero c e l = (l, e.1)
even_set n (x ∷ cs) (suc k) c e l = (e.0, even_set n cs k c e.1 l)

pub even_index : (n : ℕ) (cs : List (List ℕ)) (k : ℕ) (d : List ℕ) → AreOfLength n cs → k < length cs → length (slice_index_or cs k d) ≡ n
even_index n [] k d e l = absurd (omega arith)
even_index n (x ∷ cs) zero d e l = e.0
even_index n (x ∷ cs) (suc k) d e l = even_index n cs k d e.1 (omega arith)

-- a chunk into which bytes were stored, in its place
pub put_joined : (cs : List (List ℕ)) (at : ℕ) (bs c d : List ℕ) → AreOfLength 1048576 cs → at < 1048576 * length cs → at % 1048576 + length bs ≤ 1048576 → c ≡ splice (slice_index_or cs (at / 1048576) d) (at % 1048576) bs
    → (joined (slice_set cs (at / 1048576) c) ≡ splice (joined cs) at bs) × AreOfLength 1048576 (slice_set cs (at / 1048576) c)
put_joined cs at bs c d e l g is =
    let k : at / 1048576 < length cs = omega arith in
    let old = even_index 1048576 cs (at / 1048576) d e k in
    let new : length c ≡ 1048576 = ap length is ∙ length-splice (slice_index_or cs (at / 1048576) d) (at % 1048576) bs (omega (arith, old, g)) ∙ old in
    (ap (λ x. joined (slice_set cs (at / 1048576) x)) is ∙ splice-joined cs at bs d e l g, even_set 1048576 cs (at / 1048576) c e new)

-- more bytes behind those that were stored
pub splice_more : (old now more : List ℕ) (at done count : ℕ) (bytes part : List ℕ) → at + length bytes ≤ length old → done + count ≤ length bytes → now ≡ splice old at (take done bytes) → part ≡ slab bytes done count → more ≡ splice now (at + done) part
    → more ≡ splice old at (take (done + count) bytes)
splice_more old now more at done count bytes part l g e p is =
    let front : length (take done bytes) ≡ done = length-take-le done bytes (omega arith) in
    let size : length part ≡ count = ap length p ∙ length-slab bytes done count g in
    is ∙ ap (λ m. splice m (at + done) part) e
    ∙ ap (λ n. splice (splice old at (take done bytes)) (at + n) part) (sym front)
    ∙ splice-splice_next old at (take done bytes) part (omega (arith, l, g, front, size))
    ∙ ap (λ x. splice old at (take done bytes ++ x)) p
    ∙ ap (splice old at) (sym (take-add done count bytes))
