-- The bytes of constants: what stands where a descriptor's cell or a string's character does.
use Rattle.std.proofs.Common.{◌≡◌, ℕ, zero, suc, ◌+◌, ◌-◌, ◌*◌, ◌<◌, ◌≤◌, List, [], ◌∷◌, ◌++◌, map, length, take, drop, replicate, Bool, true, false, ◌&&◌, Some, refl, sym, ap, ap₂, ◌∙◌, subst, arith, length-append}
use Rattle.std.specs.Prelude.{flat_map, sum_by, slice_get, get_or}
use Rattle.std.specs.Int.{to_le_bytes, from_le_bytes, w64}
use Rattle.std.proofs.lemmas.List.{length-replicate}
use Rattle.std.proofs.lemmas.List.Sums.{sum_by-cons}
use Rattle.a64_memory.specs.Bytes.{slab}
use Rattle.a64_memory.proofs.Slabs.{slab-append_left, slab-append_right}
use Rattle.ob_types.specs.Store.{Cell, Bits}
use Rattle.ob_types.specs.declared.program.Program.{Program}
use Rattle.ob_types.proofs.Tests.{none_some, some_same}
use Rattle.ssa_lowered.specs.Data.{Layout, text_room, rounded}
use Rattle.ssa_lowered.specs.Pieces.{numbers}
use Rattle.ssa_lowered.specs.Constants.{ancestor, address_of, descriptor_bytes, character_bytes, text_bytes}

-- rows of bytes, one behind the other

pub length_rows : {A : Type 0} (f : A → List ℕ) (n : A → ℕ) → ((x : A) → length (f x) ≡ n x) → (xs : List A) → length (flat_map f xs) ≡ sum_by n xs
length_rows f n each [] = refl
length_rows f n each (x ∷ xs) =
    let a = length-append (f x) (flat_map f xs) in let b = each x in let c = length_rows f n each xs in let d = sum_by-cons n x xs in
    omega (arith, a, b, c, d)

pub slab_rows : {A : Type 0} (f : A → List ℕ) (n : A → ℕ) → ((x : A) → length (f x) ≡ n x) → (xs : List A) (o : ℕ) (x : A) (i m : ℕ) → slice_get xs o ≡ Some x → i + m ≤ n x
    → slab (flat_map f xs) (sum_by n (take o xs) + i) m ≡ slab (f x) i m
slab_rows f n each [] o x i m at fits = none_some x at
slab_rows f n each (y ∷ xs) zero x i m at fits =
    let e = some_same y x at in
    let z : 0 + i ≡ i = omega arith in
    let long = each x in
    ap₂ (λ y i. slab (f y ++ flat_map f xs) i m) e z ∙ slab-append_left (f x) (flat_map f xs) i m (omega (arith, long, fits))
slab_rows f n each (y ∷ xs) (suc o) x i m at fits =
    let s = sum_by-cons n y (take o xs) in
    let long = each y in
    let z : sum_by n (take (suc o) (y ∷ xs)) + i ≡ length (f y) + (sum_by n (take o xs) + i) = omega (arith, s, long) in
    ap (λ j. slab (f y ++ flat_map f xs) j m) z ∙ slab-append_right (f y) (flat_map f xs) (sum_by n (take o xs) + i) m ∙ slab_rows f n each xs o x i m at fits

same_sum : {A : Type 0} (k : ℕ) (xs : List A) → sum_by (λ x. k) xs ≡ length xs * k
same_sum k [] = omega arith
same_sum k (x ∷ xs) = let s = sum_by-cons (λ x. k) x xs in let h = same_sum k xs in omega (arith, s, h)

number_at : (i n r : ℕ) → r < n → slice_get (numbers i n) r ≡ Some (i + r)
number_at i zero r lt = absurd (omega (arith, lt))
number_at i (suc n) zero lt = let e : i ≡ i + 0 = omega arith in ap (λ j. Some j) e
number_at i (suc n) (suc r) lt = let e : suc i + r ≡ i + suc r = omega arith in number_at (suc i) n r (omega (arith, lt)) ∙ ap (λ j. Some j) e

length_numbers : (i n : ℕ) → length (numbers i n) ≡ n
length_numbers i zero = refl
length_numbers i (suc n) = ap suc (length_numbers (suc i) n)

taken : (i n r : ℕ) → r ≤ n → length (take r (numbers i n)) ≡ r
taken i n zero le = refl
taken i zero (suc r) le = absurd (omega (arith, le))
taken i (suc n) (suc r) le = ap suc (taken (suc i) n r (omega (arith, le)))

-- one of some rows of one length
slab_row : (f : ℕ → List ℕ) (k : ℕ) → ((x : ℕ) → length (f x) ≡ k) → (n r i m : ℕ) → r < n → i + m ≤ k → slab (flat_map f (numbers 0 n)) (r * k + i) m ≡ slab (f r) i m
slab_row f k each n r i m lt fits =
    let s = same_sum k (take r (numbers 0 n)) in
    let t = taken 0 n r (omega (arith, lt)) in
    let z : r * k + i ≡ sum_by (λ x. k) (take r (numbers 0 n)) + i = s_is s t in
    let at = number_at 0 n r lt in
    let e : 0 + r ≡ r = omega arith in
    ap (λ j. slab (flat_map f (numbers 0 n)) j m) z ∙ slab_rows f (λ x. k) each (numbers 0 n) r (0 + r) i m at fits ∙ ap (λ x. slab (f x) i m) e
  where
    s_is : sum_by (λ (x : ℕ). k) (take r (numbers 0 n)) ≡ length (take r (numbers 0 n)) * k → length (take r (numbers 0 n)) ≡ r → r * k + i ≡ sum_by (λ (x : ℕ). k) (take r (numbers 0 n)) + i
    s_is s t = let u = ap (λ a. a * k) t in omega (arith, s, u)

whole_slab : (xs : List ℕ) → slab xs 0 (length xs) ≡ xs
whole_slab [] = refl
whole_slab (x ∷ xs) = ap (λ ys. x ∷ ys) (whole_slab xs)

module _ (p : Program) (l : Layout) (base : ℕ) where
  abbrev cell_bytes : ℕ → ℕ → List ℕ
  cell_bytes r j = to_le_bytes w64 (address_of p l base (ancestor p.types j r))

  abbrev pub descriptors : List ℕ
  descriptors = flat_map (descriptor_bytes p l base) (numbers 0 (length p.types.records))

  one_descriptor : (r : ℕ) → length (descriptor_bytes p l base r) ≡ 128
  one_descriptor r = length_rows (cell_bytes r) (λ j. 8) (λ j. refl) (numbers 0 16)

  pub length_descriptors : length descriptors ≡ 128 * length p.types.records
  length_descriptors =
      let a = length_rows (descriptor_bytes p l base) (λ r. 128) one_descriptor (numbers 0 (length p.types.records)) in
      let b = same_sum 128 (numbers 0 (length p.types.records)) in
      let c = length_numbers 0 (length p.types.records) in
      omega (arith, a, b, c)

  -- cell j of a descriptor among all of them
  pub cell_slab : (r j : ℕ) → r < length p.types.records → j < 16 → slab descriptors (128 * r + 8 * j) 8 ≡ to_le_bytes w64 (address_of p l base (ancestor p.types j r))
  cell_slab r j lt less =
      let z : 128 * r + 8 * j ≡ r * 128 + 8 * j = omega arith in
      let u : 8 * j ≡ j * 8 + 0 = omega arith in
      ap (λ i. slab descriptors i 8) z
      ∙ slab_row (descriptor_bytes p l base) 128 one_descriptor (length p.types.records) r (8 * j) 8 lt (omega (arith, less))
      ∙ ap (λ i. slab (descriptor_bytes p l base r) i 8) u
      ∙ slab_row (cell_bytes r) 8 (λ j. refl) 16 j 0 8 less (omega arith)
      ∙ whole_slab (cell_bytes r j)

---- Strings

module _ (l : Layout) (some : 1 ≤ l.character) where
  character_length : (c : ℕ) → length (character_bytes l c) ≡ l.character
  character_length c = let e = length-replicate {A = ℕ} (l.character - 1) 0 in omega (arith, e, some)

  text_length : (xs : List ℕ) → length (text_bytes l xs) ≡ text_room l xs
  text_length xs =
      let all = flat_map (character_bytes l) (xs ++ 0 ∷ []) in
      let a = length-append all (replicate (text_room l xs - l.character * suc (length xs)) 0) in
      let b = length_rows (character_bytes l) (λ c. l.character) character_length (xs ++ 0 ∷ []) in
      let c = same_sum l.character (xs ++ 0 ∷ []) in
      let d = length-append xs (0 ∷ []) in
      let e = length-replicate {A = ℕ} (text_room l xs - l.character * suc (length xs)) 0 in
      let f : l.character * suc (length xs) ≤ text_room l xs = omega arith in
      by a b c d e f
    where
      by : length (text_bytes l xs) ≡ length (flat_map (character_bytes l) (xs ++ 0 ∷ [])) + length {A = ℕ} (replicate (text_room l xs - l.character * suc (length xs)) 0)
          → length (flat_map (character_bytes l) (xs ++ 0 ∷ [])) ≡ sum_by (λ (c : ℕ). l.character) (xs ++ 0 ∷ []) → sum_by (λ (c : ℕ). l.character) (xs ++ 0 ∷ []) ≡ length (xs ++ 0 ∷ []) * l.character
          → length (xs ++ 0 ∷ []) ≡ length xs + 1 → length {A = ℕ} (replicate (text_room l xs - l.character * suc (length xs)) 0) ≡ text_room l xs - l.character * suc (length xs)
          → l.character * suc (length xs) ≤ text_room l xs → length (text_bytes l xs) ≡ text_room l xs
      by a b c d e f =
          let u = ap (λ n. n * l.character) d in
          let v : (length xs + 1) * l.character ≡ l.character * suc (length xs) = omega arith in
          omega (arith, a, b, c, u, v, e, f)

  pub length_texts : (texts : List (List ℕ)) → length (flat_map (text_bytes l) texts) ≡ sum_by (text_room l) texts
  length_texts texts = length_rows (text_bytes l) (text_room l) text_length texts

  -- character i of a string among all of them
  pub character_slab : (texts : List (List ℕ)) (o : ℕ) (xs : List ℕ) (i c : ℕ) → slice_get texts o ≡ Some xs → slice_get (xs ++ 0 ∷ []) i ≡ Some c → i < suc (length xs)
      → slab (flat_map (text_bytes l) texts) (sum_by (text_room l) (take o texts) + i * l.character) l.character ≡ character_bytes l c
  character_slab texts o xs i c at is lt =
      let all = flat_map (character_bytes l) (xs ++ 0 ∷ []) in
      let pad = replicate (text_room l xs - l.character * suc (length xs)) 0 in
      let row = length_rows (character_bytes l) (λ c. l.character) character_length (xs ++ 0 ∷ []) in
      let same = same_sum l.character (xs ++ 0 ∷ []) in
      let long = length-append xs (0 ∷ []) in
      let ends = inside i (length xs) l.character lt in
      let room : l.character * suc (length xs) ≤ text_room l xs = omega arith in
      let turned : suc (length xs) * l.character ≡ l.character * suc (length xs) = omega arith in
      let count = ap (λ n. n * l.character) long in
      let one_more : (length xs + 1) * l.character ≡ suc (length xs) * l.character = omega arith in
      let before = sum_is i in
      slab_rows (text_bytes l) (text_room l) text_length texts o xs (i * l.character) l.character at (omega (arith, ends, room, turned))
      ∙ slab-append_left all pad (i * l.character) l.character (omega (arith, ends, row, same, count, one_more))
      ∙ ap (λ j. slab all j l.character) (before (omega (arith, lt, long)))
      ∙ slab_rows (character_bytes l) (λ c. l.character) character_length (xs ++ 0 ∷ []) i c 0 l.character is (omega arith)
      ∙ ap (λ n. slab (character_bytes l c) 0 n) (sym (character_length c))
      ∙ whole_slab (character_bytes l c)
    where
      inside : (i n k : ℕ) → i < suc n → i * k + k ≤ suc n * k
      inside i n zero lt = omega arith
      inside i n (suc k) lt = let h = inside i n k lt in omega (arith, h, lt)

      sum_is : (i : ℕ) → i ≤ length (xs ++ 0 ∷ []) → i * l.character ≡ sum_by (λ (c : ℕ). l.character) (take i (xs ++ 0 ∷ [])) + 0
      sum_is i le =
          let a = same_sum l.character (take i (xs ++ 0 ∷ [])) in
          let b = ap (λ n. n * l.character) (long_take i (xs ++ 0 ∷ []) le) in
          omega (arith, a, b)
        where
          long_take : (i : ℕ) (ys : List ℕ) → i ≤ length ys → length (take i ys) ≡ i
          long_take zero ys le = refl
          long_take (suc i) [] le = absurd (omega (arith, le))
          long_take (suc i) (y ∷ ys) le = ap suc (long_take i ys (omega (arith, le)))

-- the cell of a string's character
pub string_cell : (xs : List ℕ) (c : ℕ) (v : Cell) → slice_get (map Bits xs ++ Bits 0 ∷ []) c ≡ Some v → (k : ℕ) × (v ≡ Bits k) × (slice_get (xs ++ 0 ∷ []) c ≡ Some k)
string_cell [] zero v e = (0, sym (some_same (Bits 0) v e), refl)
string_cell [] (suc c) v e = absurd (cc)
string_cell (x ∷ xs) zero v e = (x, sym (some_same (Bits x) v e), refl)
string_cell (x ∷ xs) (suc c) v e = string_cell xs c v e
