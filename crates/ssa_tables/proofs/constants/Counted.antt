-- How many bytes constants have: eight a cell at most, in whole words.
use Rattle.std.proofs.Common.{◌≡◌, ℕ, zero, suc, ◌+◌, ◌-◌, ◌*◌, ◌≤◌, List, [], ◌∷◌, replicate, length, length-append, refl, sym, ap, ap₂, ◌∙◌, arith}
use Rattle.std.specs.Prelude.{◌%◌}
use Rattle.std.specs.List.{flat_map, sum_by}
use Rattle.std.specs.Int.{to_le_bytes, w64}
use Rattle.std.proofs.lemmas.List.Sums.{sum_by-cons}
use Rattle.ob_types.specs.Meaning.{texts_of}
use Rattle.ob_types.specs.declared.program.Program.{Program}
use Rattle.ssa_lowered.specs.Constants.{ancestor, constants}
use Rattle.ssa_lowered.specs.Data.{layout, globals_room, rounded}
use Rattle.ssa_lowered.specs.Limits.{constant_cells}
use Rattle.ssa_lowered.specs.Pieces.{numbers}
use Rattle.ssa_tables.specs.Places.{string_size}
use Rattle.ssa_tables.specs.constants.Described.{address_by, described, all_described, padded, all_texts}
use Rattle.ssa_tables.proofs.constants.Telling.{constants_are}

-- items that take so many bytes each
alike : {A : Type 0} (f : A → List ℕ) (n : ℕ) → ((x : A) → length (f x) ≡ n) → (xs : List A) → length (flat_map f xs) ≡ n * length xs
alike f n e [] = omega arith
alike f n e (x ∷ xs) =
    let a = length-append (f x) (flat_map f xs) in
    let b = e x in
    let c = alike f n e xs in
    let d : n * suc (length xs) ≡ n + n * length xs = grind arith in
    a ∙ ap₂ (λ i j. i + j) b c ∙ sym d

numbers_length : (i n : ℕ) → length (numbers i n) ≡ n
numbers_length i zero = refl
numbers_length i (suc n) = ap suc (numbers_length (suc i) n)

module _ (p : Program) (first : ℕ) where
  one_described : (r : ℕ) → length (described p.types first r) ≡ 128
  one_described r =
      let a = alike (λ j. to_le_bytes w64 (address_by first (ancestor p.types j r))) 8 (λ j. refl) (numbers 0 16) in
      let b = numbers_length 0 16 in
      omega (arith, a, b)

  descriptors_length : length (all_described p.types first) ≡ 128 * length p.types.records
  descriptors_length =
      let a = alike (described p.types first) 128 one_described (numbers 0 (length p.types.records)) in
      let b = numbers_length 0 (length p.types.records) in
      omega (arith, a, b)

  length_zeros : (n : ℕ) → length {A = ℕ} (replicate n 0) ≡ n
  length_zeros zero = refl
  length_zeros (suc n) = ap suc (length_zeros n)

  padded_length : (xs : List ℕ) → length (padded xs) ≡ rounded (suc (length xs))
  padded_length xs =
      let a = length-append xs (replicate (string_size xs - length xs) 0) in
      let b = length_zeros (string_size xs - length xs) in
      omega (arith, a, b)

  -- eight bytes a cell at most, in whole words
  texts_few : (xss : List (List ℕ)) → length (all_texts xss) ≤ 8 * sum_by (λ xs. suc (length xs)) xss
  texts_few [] = omega arith
  texts_few (xs ∷ xss) =
      let a = length-append (padded xs) (all_texts xss) in
      let b = padded_length xs in
      let c = sum_by-cons (λ (ys : List ℕ). suc (length ys)) xs xss in
      let more = texts_few xss in
      omega (arith, a, b, c, more)

  texts_whole : (xss : List (List ℕ)) → length (all_texts xss) % 8 ≡ 0
  texts_whole [] = omega arith
  texts_whole (xs ∷ xss) =
      let a = length-append (padded xs) (all_texts xss) in
      let b = padded_length xs in
      let more = texts_whole xss in
      omega (arith, a, b, more)

module _ (p : Program) (globals : ℕ) where
  abbrev first_descriptor : ℕ
  first_descriptor = globals + globals_room p (layout p.types)

  parts_length : length (constants p (layout p.types) globals) ≡ 128 * length p.types.records + length (all_texts (texts_of p.procedures))
  parts_length =
      let a = sym (ap (λ (l : List ℕ). length l) (constants_are p globals first_descriptor refl)) in
      let b = length-append (all_described p.types first_descriptor) (all_texts (texts_of p.procedures)) in
      let c = descriptors_length p first_descriptor in
      omega (arith, a, b, c)

  pub constants_length : length (constants p (layout p.types) globals) ≤ 8 * constant_cells p
  constants_length = let a = parts_length in let b = texts_few p first_descriptor (texts_of p.procedures) in omega (arith, a, b)

  pub constants_whole : length (constants p (layout p.types) globals) % 8 ≡ 0
  constants_whole = let a = parts_length in let b = texts_whole p first_descriptor (texts_of p.procedures) in omega (arith, a, b)
