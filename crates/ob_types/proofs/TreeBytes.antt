-- What trees take: a cell a byte at least and eight at most; what has a part of eight bytes is whole words, all else has a byte a cell.
use Rattle.std.proofs.Common.{◌≡◌, ℕ, zero, suc, ◌+◌, ◌*◌, ◌/◌, ◌%◌, ◌≤◌, Bool, true, false, ◌&&◌, ◌||◌, not, refl, ap, ◌∙◌, arith}
use Rattle.ob_types.specs.Trees.{DataTree, Scalar, Array, Record, FieldRow, Empty, Field, Extend, tree_cells, row_cells, fits_byte, scalar_bytes, round_up, wide, row_wide, tree_bytes, row_end}

pub up_above : (b : Bool) (n : ℕ) → n ≤ round_up b n
up_above true n = omega arith
up_above false n = omega arith

or_left : (a b : Bool) → (a || b) ≡ false → a ≡ false
or_left true b h = h
or_left false b h = refl

or_right : (a b : Bool) → (a || b) ≡ false → b ≡ false
or_right true b h = absurd (cc)
or_right false b h = h

not_rounded : (b : Bool) (n : ℕ) → b ≡ false → round_up b n ≡ n
not_rounded b n e = ap (λ b. round_up b n) e

times_words : (n k : ℕ) → k % 8 ≡ 0 → n * k % 8 ≡ 0
times_words zero k e = omega arith
times_words (suc n) k e = let f = times_words n k e in let z : suc n * k ≡ n * k + k = omega arith in omega (arith, e, f, z)

rounded_words : (n : ℕ) → round_up true n % 8 ≡ 0
rounded_words n = omega arith

module _ (packed : Bool) where
  -- a tree has no bytes where it has no cells, and else one a cell at least, eight at most
  pub few_up : (b : Bool) (n m : ℕ) → n ≤ 8 * m → round_up b n ≤ 8 * m
  few_up true n m le = omega (arith, le)
  few_up false n m le = le

  wide_up : (a b : Bool) (n m k x : ℕ) → n ≤ 8 * m → x ≤ 8 * k → round_up a n + x ≤ 8 * (m + k)
  wide_up a b n m k x le lt = let z = few_up a n m le in omega (arith, z, lt)

  times_few : (n a b : ℕ) → a ≤ 8 * b → n * a ≤ 8 * (n * b)
  times_few zero a b le = omega arith
  times_few (suc n) a b le = let z = times_few n a b le in
      let x : suc n * a ≡ a + n * a = omega arith in let y : suc n * b ≡ b + n * b = omega arith in omega (arith, z, le, x, y)

  times_many : (n a b : ℕ) → a ≤ b → n * a ≤ n * b
  times_many zero a b le = omega arith
  times_many (suc n) a b le = let z = times_many n a b le in
      let x : suc n * a ≡ a + n * a = omega arith in let y : suc n * b ≡ b + n * b = omega arith in omega (arith, z, le, x, y)

  scalar_few : (b : Bool) → scalar_bytes b ≤ 8 * 1
  scalar_few true = omega arith
  scalar_few false = omega arith

  scalar_many : (b : Bool) → 1 ≤ scalar_bytes b
  scalar_many true = omega arith
  scalar_many false = omega arith

  mutual
    pub bytes_few : (s : DataTree) → tree_bytes packed s ≤ 8 * tree_cells s
    bytes_few (Scalar f) = scalar_few (packed && fits_byte f)
    bytes_few (Array n t) = times_few n (tree_bytes packed t) (tree_cells t) (bytes_few t)
    bytes_few (Record r) = few_up (row_wide packed r) (row_end packed r) (row_cells r) (row_few r)

    pub row_few : (r : FieldRow) → row_end packed r ≤ 8 * row_cells r
    row_few Empty = omega arith
    row_few (Field r t) = wide_up (wide packed t) (wide packed t) (row_end packed r) (row_cells r) (tree_cells t) (tree_bytes packed t) (row_few r) (bytes_few t)
    row_few (Extend r) = few_up (row_wide packed r) (row_end packed r) (row_cells r) (row_few r)

  mutual
    pub bytes_many : (s : DataTree) → tree_cells s ≤ tree_bytes packed s
    bytes_many (Scalar f) = scalar_many (packed && fits_byte f)
    bytes_many (Array n t) = times_many n (tree_cells t) (tree_bytes packed t) (bytes_many t)
    bytes_many (Record r) = let z = row_many r in let u = up_above (row_wide packed r) (row_end packed r) in omega (arith, z, u)

    row_many : (r : FieldRow) → row_cells r ≤ row_end packed r
    row_many Empty = omega arith
    row_many (Field r t) = let z = row_many r in let u = up_above (wide packed t) (row_end packed r) in let y = bytes_many t in omega (arith, z, u, y)
    row_many (Extend r) = let z = row_many r in let u = up_above (row_wide packed r) (row_end packed r) in omega (arith, z, u)

  mutual
    pub narrow : (t : DataTree) → wide packed t ≡ false → tree_bytes packed t ≡ tree_cells t
    narrow (Scalar f) e = one (packed && fits_byte f) e
      where
        one : (b : Bool) → not b ≡ false → scalar_bytes b ≡ 1
        one true e = refl
        one false e = absurd (cc)
    narrow (Array n t) e = ap (λ k. n * k) (narrow t e)
    narrow (Record r) e = not_rounded (row_wide packed r) (row_end packed r) e ∙ row_narrow r e

    row_narrow : (r : FieldRow) → row_wide packed r ≡ false → row_end packed r ≡ row_cells r
    row_narrow Empty e = refl
    row_narrow (Field r t) e =
        let a = not_rounded (wide packed t) (row_end packed r) (or_right (row_wide packed r) (wide packed t) e) in
        let b = row_narrow r (or_left (row_wide packed r) (wide packed t) e) in
        let c = narrow t (or_right (row_wide packed r) (wide packed t) e) in
        omega (arith, a, b, c)
    row_narrow (Extend r) e = not_rounded (row_wide packed r) (row_end packed r) e ∙ row_narrow r e

  pub whole_words : (t : DataTree) → wide packed t ≡ true → tree_bytes packed t % 8 ≡ 0
  whole_words (Scalar f) e = eight_bytes (packed && fits_byte f) e
    where
      eight_bytes : (b : Bool) → not b ≡ true → scalar_bytes b % 8 ≡ 0
      eight_bytes true e = absurd (cc)
      eight_bytes false e = refl
  whole_words (Array n t) e = times_words n (tree_bytes packed t) (whole_words t e)
  whole_words (Record r) e = ap (λ b. round_up b (row_end packed r) % 8) e ∙ rounded_words (row_end packed r)

  pub few_words : (t : DataTree) → tree_bytes packed t / 8 + tree_bytes packed t % 8 ≤ tree_cells t
  few_words t = by (wide packed t) refl
    where
      by : (b : Bool) → wide packed t ≡ b → tree_bytes packed t / 8 + tree_bytes packed t % 8 ≤ tree_cells t
      by true e = let a = whole_words t e in let b = bytes_few t in omega (arith, a, b)
      by false e = let a = narrow t e in omega (arith, a)

  pub few_rounded : (t : DataTree) → round_up true (tree_bytes packed t) ≤ 8 * tree_cells t
  few_rounded t = let e = bytes_few t in omega (arith, e)

-- eight bytes a cell

round_eight : (b : Bool) (n m : ℕ) → n ≡ 8 * m → round_up b n ≡ 8 * m
round_eight true n m e = omega (arith, e)
round_eight false n m e = e

times_eight : (n a b : ℕ) → a ≡ 8 * b → n * a ≡ 8 * (n * b)
times_eight zero a b e = omega arith
times_eight (suc n) a b e = let z = times_eight n a b e in
    let x : suc n * a ≡ a + n * a = omega arith in let y : suc n * b ≡ b + n * b = omega arith in omega (arith, z, e, x, y)

mutual
  pub eight : (t : DataTree) → tree_bytes false t ≡ 8 * tree_cells t
  eight (Scalar f) = refl
  eight (Array n t) = times_eight n (tree_bytes false t) (tree_cells t) (eight t)
  eight (Record r) = round_eight (row_wide false r) (row_end false r) (row_cells r) (row_eight r)

  row_eight : (r : FieldRow) → row_end false r ≡ 8 * row_cells r
  row_eight Empty = refl
  row_eight (Field r t) = let x = round_eight (wide false t) (row_end false r) (row_cells r) (row_eight r) in let y = eight t in omega (arith, x, y)
  row_eight (Extend r) = round_eight (row_wide false r) (row_end false r) (row_cells r) (row_eight r)

-- so a field stands right behind those before it
pub field_eight : (r : FieldRow) (t : DataTree) → round_up (wide false t) (row_end false r) ≡ 8 * row_cells r
field_eight r t = round_eight (wide false t) (row_end false r) (row_cells r) (row_eight r)
