-- Laws of lists of bytes that are read and written in parts.
use Rattle.std.proofs.Common.{◌≡◌, ℕ, ◌+◌, ◌-◌, ◌<◌, ◌≤◌, ◌⊎◌, List, [], ◌++◌, take, drop, length, get_or, refl, arith, rules, sym, ap, ap₂, ◌∙◌, lt_of_le_of_lt, le_of_eq, ⊎_elim, inl, inr, length-append, length-take, length-drop, append_assoc, take-append-drop}
use Rattle.std.proofs.lemmas.List.{places, same_lists, get_or-take, get_or-drop, get_or_past, take_at, drop_at, drop-drop, drop-take, take-take, length-take-le, take-append-le, drop-append-le}
use Rattle.std.proofs.Math.Seq.{take-add, take-append-add, drop-append-add}
use Rattle.std.proofs.lemmas.Bool.{cases_lt}
use Rattle.a64_memory.specs.Bytes.{splice, slab}
use Rattle.a64_memory.specs.Memory.{AreBytes}

pub length-splice : (m : List ℕ) (a : ℕ) (bs : List ℕ) → a + length bs ≤ length m → length (splice m a bs) ≡ length m
length-splice m a bs p = omega (arith, length-append {A = ℕ}, length-take {A = ℕ}, length-drop {A = ℕ})

-- what was stored is read
pub slab-splice_same : (m : List ℕ) (a : ℕ) (bs : List ℕ) → a + length bs ≤ length m → slab (splice m a bs) a (length bs) ≡ bs
slab-splice_same m a bs p =
    ap (take (length bs)) (drop_at (take a m) (bs ++ drop (a + length bs) m) a (length-take-le a m (omega arith))) ∙ take_at bs (drop (a + length bs) m) (length bs) refl

-- each byte of what is left
pub get_or-splice_in : (m : List ℕ) (a : ℕ) (bs : List ℕ) (k d : ℕ) → a + length bs ≤ length m → a ≤ k → k < a + length bs → get_or (splice m a bs) k d ≡ get_or bs (k - a) d
get_or-splice_in m a bs k d p q r = search (rules, places)

pub get_or-splice_out : (m : List ℕ) (a : ℕ) (bs : List ℕ) (k d : ℕ) → a + length bs ≤ length m → (k < a) ⊎ (a + length bs ≤ k) → get_or (splice m a bs) k d ≡ get_or m k d
get_or-splice_out m a bs k d p (inl q) = search (rules, places)
get_or-splice_out m a bs k d p (inr q) = search (rules, places)

-- what lies apart stays
pub slab-splice_apart : (m : List ℕ) (a : ℕ) (bs : List ℕ) (b n : ℕ) → a + length bs ≤ length m → b + n ≤ length m → (b + n ≤ a) ⊎ (a + length bs ≤ b) → slab (splice m a bs) b n ≡ slab m b n
slab-splice_apart m a bs b n p q (inl r) = same_lists _ _ (omega (arith, length-append {A = ℕ}, length-take {A = ℕ}, length-drop {A = ℕ})) (λ k d h. grind (arith, places, get_or-splice_out))
slab-splice_apart m a bs b n p q (inr r) = same_lists _ _ (omega (arith, length-append {A = ℕ}, length-take {A = ℕ}, length-drop {A = ℕ})) (λ k d h. grind (arith, places, get_or-splice_out))

pub take-splice : (m : List ℕ) (a : ℕ) (xs : List ℕ) → a + length xs ≤ length m → take (a + length xs) (splice m a xs) ≡ take a m ++ xs
take-splice m a xs p = ap (take (a + length xs)) (sym (append_assoc (take a m) xs (drop (a + length xs) m))) ∙ take_at (take a m ++ xs) (drop (a + length xs) m) (a + length xs) (omega (arith, length-append {A = ℕ}, length-take {A = ℕ}))

pub drop-splice : (m : List ℕ) (a : ℕ) (xs : List ℕ) (n : ℕ) → a + length xs ≤ length m → a + length xs ≤ n → drop n (splice m a xs) ≡ drop n m
drop-splice m a xs n p q = same_lists _ _ (omega (arith, length-splice m a xs p, length-drop {A = ℕ})) (λ k d h. grind (arith, places, get_or-splice_out))

-- two stores side by side are one
pub splice-splice_next : (m : List ℕ) (a : ℕ) (xs ys : List ℕ) → a + length xs + length ys ≤ length m → splice (splice m a xs) (a + length xs) ys ≡ splice m a (xs ++ ys)
splice-splice_next m a xs ys p =
    ap₂ (λ u v. u ++ (ys ++ v)) (take-splice m a xs (omega arith)) (drop-splice m a xs (a + length xs + length ys) (omega arith) (omega arith))
    ∙ append_assoc (take a m) xs (ys ++ drop (a + length xs + length ys) m)
    ∙ ap (λ l. take a m ++ l) (sym (append_assoc xs ys (drop (a + length xs + length ys) m)))
    ∙ ap (λ n. take a m ++ (xs ++ ys ++ drop n m)) (omega (arith, length-append xs ys))

-- what was written over itself changes nothing, and parts side by side are one
pub length-slab : (m : List ℕ) (a n : ℕ) → a + n ≤ length m → length (slab m a n) ≡ n
length-slab m a n p = omega (arith, length-take {A = ℕ}, length-drop {A = ℕ})

pub splice-slab_self : (m : List ℕ) (a n : ℕ) → a + n ≤ length m → splice m a (slab m a n) ≡ m
splice-slab_self m a n p =
    ap (λ l. take a m ++ (slab m a n ++ l)) (ap (λ k. drop (a + k) m) (length-slab m a n p) ∙ sym (drop-drop n a m))
    ∙ ap (λ l. take a m ++ l) (take-append-drop n (drop a m)) ∙ take-append-drop a m

pub slab-append_next : (m : List ℕ) (a i n : ℕ) → slab m a i ++ slab m (a + i) n ≡ slab m a (i + n)
slab-append_next m a i n = sym (take-add i n (drop a m) ∙ ap (λ l. take i (drop a m) ++ take n l) (drop-drop i a m))

-- parts of bytes are bytes
pub slab_small : (o : List ℕ) (b n : ℕ) → AreBytes o → AreBytes (slab o b n)
slab_small o b n small i = ⊎_elim
    (λ (h : i < n). rw (get_or-take, get_or-drop) (small (b + i)))
    (λ (h : n ≤ i). rw (get_or_past (slab o b n) i 0 (omega (arith, length-take {A = ℕ}))) (omega arith))
    (cases_lt i n)

-- nothing written changes nothing
pub splice_none : (m : List ℕ) (a : ℕ) → splice m a [] ≡ m
splice_none m a = ap (λ k. take a m ++ drop k m) (the a) ∙ take-append-drop a m
  where
    the : (a : ℕ) → a + 0 ≡ a
    the a = omega arith

-- a part of a part
pub slab-slab : (m : List ℕ) (a n b k : ℕ) → b + k ≤ n → slab (slab m a n) b k ≡ slab m (a + b) k
slab-slab m a n b k p =
    ap (λ j. take k (drop b (take j (drop a m)))) (the (omega arith))
    ∙ ap (take k) (drop-take b (n - b) (drop a m))
    ∙ take-take k (n - b) (drop b (drop a m)) (omega arith)
    ∙ ap (take k) (drop-drop b a m)
  where
    the : n ≡ b + (n - b) → n ≡ b + (n - b)
    the e = e

pub get_or-slab : (m : List ℕ) (a n k d : ℕ) → k < n → get_or (slab m a n) k d ≡ get_or m (a + k) d
get_or-slab m a n k d h = get_or-take n (drop a m) k d h ∙ get_or-drop a m k d

-- a part that was written inside of another
pub slab-splice_inside : (m : List ℕ) (a n b : ℕ) (bs : List ℕ) → b + length bs ≤ n → a + n ≤ length m → slab (splice m (a + b) bs) a n ≡ splice (slab m a n) b bs
slab-splice_inside m a n b bs p q = same_lists _ _ (omega (arith, length-append {A = ℕ}, length-take {A = ℕ}, length-drop {A = ℕ})) (λ k d g. let h : k < n = at k g in ⊎_elim (before k d h) (λ l. ⊎_elim (within k d h l) (behind k d h) (cases_lt k (b + length bs))) (cases_lt k b))
  where
    len : length (slab m a n) ≡ n
    len = length-slab m a n q

    at : (k : ℕ) → k < length (slab (splice m (a + b) bs) a n) → k < n
    at k g = omega (arith, length-take {A = ℕ})

    before : (k d : ℕ) → k < n → k < b → get_or (slab (splice m (a + b) bs) a n) k d ≡ get_or (splice (slab m a n) b bs) k d
    before k d h l =
        get_or-slab (splice m (a + b) bs) a n k d h ∙ get_or-splice_out m (a + b) bs (a + k) d (omega arith) (inl (omega arith))
        ∙ sym (get_or-splice_out (slab m a n) b bs k d (omega (arith, len)) (inl l) ∙ get_or-slab m a n k d h)

    within : (k d : ℕ) → k < n → b ≤ k → k < b + length bs → get_or (slab (splice m (a + b) bs) a n) k d ≡ get_or (splice (slab m a n) b bs) k d
    within k d h l g =
        get_or-slab (splice m (a + b) bs) a n k d h ∙ get_or-splice_in m (a + b) bs (a + k) d (omega arith) (omega arith) (omega arith)
        ∙ ap (λ j. get_or bs j d) (omega arith) ∙ sym (get_or-splice_in (slab m a n) b bs k d (omega (arith, len)) l g)

    behind : (k d : ℕ) → k < n → b + length bs ≤ k → get_or (slab (splice m (a + b) bs) a n) k d ≡ get_or (splice (slab m a n) b bs) k d
    behind k d h l =
        get_or-slab (splice m (a + b) bs) a n k d h ∙ get_or-splice_out m (a + b) bs (a + k) d (omega arith) (inr (omega arith))
        ∙ sym (get_or-splice_out (slab m a n) b bs k d (omega (arith, len)) (inr l) ∙ get_or-slab m a n k d h)

-- what is written are bytes
pub small_splice : (m : List ℕ) (a : ℕ) (bs : List ℕ) → a + length bs ≤ length m → AreBytes m → AreBytes bs → AreBytes (splice m a bs)
small_splice m a bs p hm hb i = ⊎_elim
    (λ (l : i < a). lt_of_le_of_lt (le_of_eq (get_or-splice_out m a bs i 0 p (inl l))) (hm i))
    (λ (l : a ≤ i). ⊎_elim
    (λ (g : i < a + length bs). lt_of_le_of_lt (le_of_eq (get_or-splice_in m a bs i 0 p l g)) (hb (i - a)))
    (λ (g : a + length bs ≤ i). lt_of_le_of_lt (le_of_eq (get_or-splice_out m a bs i 0 p (inr g))) (hm i))
    (cases_lt i (a + length bs)))
    (cases_lt i a)

-- parts of two lists one after the other, and stores into them
pub slab-append_left : (xs ys : List ℕ) (a n : ℕ) → a + n ≤ length xs → slab (xs ++ ys) a n ≡ slab xs a n
slab-append_left xs ys a n l = ap (take n) (drop-append-le a xs ys (omega arith)) ∙ take-append-le n (drop a xs) ys (omega (arith, length-drop a xs))

pub slab-append_right : (xs ys : List ℕ) (a n : ℕ) → slab (xs ++ ys) (length xs + a) n ≡ slab ys a n
slab-append_right xs ys a n = ap (take n) (drop-append-add xs ys a)

pub splice-append_left : (xs ys : List ℕ) (a : ℕ) (bs : List ℕ) → a + length bs ≤ length xs → splice (xs ++ ys) a bs ≡ splice xs a bs ++ ys
splice-append_left xs ys a bs l =
    ap₂ (λ u v. u ++ (bs ++ v)) (take-append-le a xs ys (omega arith)) (drop-append-le (a + length bs) xs ys l)
    ∙ ap (λ v. take a xs ++ v) (sym (append_assoc bs (drop (a + length bs) xs) ys))
    ∙ sym (append_assoc (take a xs) (bs ++ drop (a + length bs) xs) ys)

pub splice-append_right : (xs ys : List ℕ) (a : ℕ) (bs : List ℕ) → splice (xs ++ ys) (length xs + a) bs ≡ xs ++ splice ys a bs
splice-append_right xs ys a bs =
    let sum : length xs + a + length bs ≡ length xs + (a + length bs) = omega arith in
    ap₂ (λ u v. u ++ (bs ++ v)) (take-append-add xs ys a) (ap (λ n. drop n (xs ++ ys)) sum ∙ drop-append-add xs ys (a + length bs))
    ∙ append_assoc xs (take a ys) (bs ++ drop (a + length bs) ys)

-- the front of a list, read and stored into
pub slab-take : (m : List ℕ) (k a n : ℕ) → a + n ≤ k → slab (take k m) a n ≡ slab m a n
slab-take m k a n l = slab-slab m 0 k a n l ∙ ap (λ i. slab m i n) (the (omega arith))
  where
    the : 0 + a ≡ a → 0 + a ≡ a
    the e = e

pub splice-take : (m : List ℕ) (k a : ℕ) (bs : List ℕ) → a + length bs ≤ k → k ≤ length m → splice (take k m) a bs ≡ take k (splice m a bs)
splice-take m k a bs l g = sym (slab-splice_inside m 0 k a bs l (omega arith)) ∙ ap (λ i. take k (splice m i bs)) (the (omega arith))
  where
    the : 0 + a ≡ a → 0 + a ≡ a
    the e = e
