-- Bytes with zeros behind them.
use Rattle.std.proofs.Common.{◌≡◌, ℕ, ◌+◌, ◌-◌, ◌<◌, ◌≤◌, List, [], ◌++◌, take, length, replicate, get_or, Bool, true, false, if◌then◌else◌, refl, arith, sym, ap, ◌∙◌, ⊎_elim, length-append, append_assoc}
use Rattle.std.proofs.lemmas.Bool.{cases_lt}
use Rattle.std.proofs.lemmas.List.{length-replicate, get_or-replicate, get_or_past, get_or_append_left, get_or-append_right, replicate-append-replicate, take_all}
use Rattle.a64_memory.specs.Bytes.{splice, slab}
use Rattle.a64_memory.specs.Chunks.{padded}
use Rattle.a64_memory.proofs.Slabs.{length-splice, slab-append_left, splice-append_left}

-- zeros alone
pub padded_none : (n : ℕ) → padded n [] ≡ replicate n 0
unfolding padded
padded_none n = let all : n - 0 ≡ n = omega arith in ap (λ k. replicate k 0) all

pub length-padded : (n : ℕ) (xs : List ℕ) → length xs ≤ n → length (padded n xs) ≡ n
unfolding padded
length-padded n xs l = omega (arith, length-append {A = ℕ}, length-replicate {A = ℕ} (n - length xs) 0)

-- zeros that are filled in change nothing
pub padded-filled : (n k : ℕ) (xs : List ℕ) → length xs + k ≤ n → padded n (xs ++ replicate k 0) ≡ padded n xs
unfolding padded
padded-filled n k xs l =
    let len : length (xs ++ replicate k 0) ≡ length xs + k = omega (arith, length-append {A = ℕ}, length-replicate {A = ℕ} k 0) in
    let rest : n - (length xs + k) + k ≡ n - length xs = omega arith in
    ap (λ j. xs ++ replicate k 0 ++ replicate (n - j) 0) len
    ∙ append_assoc xs (replicate k 0) (replicate (n - (length xs + k)) 0)
    ∙ ap (λ l. xs ++ l) (replicate-append-replicate k (n - (length xs + k)) 0)
    ∙ ap (λ j. xs ++ replicate j 0) (sum (omega arith))
  where
    sum : k + (n - (length xs + k)) ≡ n - length xs → k + (n - (length xs + k)) ≡ n - length xs
    sum e = e

-- a byte, whether it is filled or not
zero_past : (k i : ℕ) → ◌≡◌ {A = ℕ} (get_or (replicate k 0) i 0) 0
zero_past k i =
    let size : length (replicate {A = ℕ} k 0) ≡ k = length-replicate k 0 in
    ⊎_elim (λ (h : i < k). get_or-replicate k i 0 0 h) (λ (h : k ≤ i). get_or_past (replicate k 0) i 0 (omega arith)) (cases_lt i k)

pub get_or-padded_in : (n : ℕ) (xs : List ℕ) (i : ℕ) → i < length xs → get_or (padded n xs) i 0 ≡ get_or xs i 0
unfolding padded
get_or-padded_in n xs i l = get_or_append_left xs (replicate (n - length xs) 0) 0 i l

pub get_or-padded_past : (n : ℕ) (xs : List ℕ) (i : ℕ) → length xs ≤ i → ◌≡◌ {A = ℕ} (get_or (padded n xs) i 0) 0
unfolding padded
get_or-padded_past n xs i l = get_or-append_right xs (replicate (n - length xs) 0) (length xs) i 0 refl l ∙ zero_past (n - length xs) (i - length xs)

-- a part of what is filled
pub slab-padded : (n : ℕ) (xs : List ℕ) (at k : ℕ) → at + k ≤ length xs → slab (padded n xs) at k ≡ slab xs at k
unfolding padded
slab-padded n xs at k l = slab-append_left xs (replicate (n - length xs) 0) at k l

-- bytes stored into what is filled
pub padded-splice : (n : ℕ) (xs : List ℕ) (at : ℕ) (bs : List ℕ) → at + length bs ≤ length xs → padded n (splice xs at bs) ≡ splice (padded n xs) at bs
unfolding padded
padded-splice n xs at bs l =
    ap (λ j. splice xs at bs ++ replicate (n - j) 0) (length-splice xs at bs l) ∙ sym (splice-append_left xs (replicate (n - length xs) 0) at bs l)

-- bytes of which so many are made, with zeros behind those that were there
pub padded-resized : (n k : ℕ) (old new : List ℕ) (made : Bool) → new ≡ (if made then take k old ++ replicate (k - length old) 0 else old) → length old ≤ k → k ≤ n → padded n new ≡ padded n old
padded-resized n k old new true e l g = ap (padded n) (e ∙ ap (λ xs. xs ++ replicate (k - length old) 0) (take_all k old l)) ∙ padded-filled n (k - length old) old (omega arith)
padded-resized n k old new false e l g = ap (padded n) e
