-- Items in a row: where the n-th stands, what stands there, and its points there.
use Rattle.std.proofs.Common.{◌≡◌, ℕ, zero, suc, ◌+◌, List, [], ◌∷◌, ◌++◌, length, drop, refl, arith, sym, ap, ap₂, ◌∙◌, subst, length-append}
use Rattle.run_laws.specs.Runs.{weigh}
use Rattle.run_laws.specs.Layers.{InRow, width_before, whole_width, spread, points_of_all}
use Rattle.run_laws.proofs.Weights.{weigh-append}

pub width_before-zero : {A : Type 0} (width : ℕ → A → ℕ) (j : ℕ) (xs : List A) → width_before width j xs 0 ≡ 0
width_before-zero width j [] = refl
width_before-zero width j (x ∷ xs) = refl

-- before the next item stands one more
pub width_before-next : {A : Type 0} (width : ℕ → A → ℕ) (j : ℕ) (xs : List A) (n : ℕ) (x : A) (rest : List A) → drop n xs ≡ x ∷ rest → width_before width j xs (suc n) ≡ width_before width j xs n + width (j + n) x
width_before-next width j [] zero x rest e = cc
width_before-next width j [] (suc n) x rest e = cc
width_before-next width j (y ∷ xs) zero x rest e =
    let same : y ≡ x = cc in let z = width_before-zero width (suc j) xs in
    let i : j ≡ j + 0 = omega arith in
    let f = ap₂ (λ m a. width m a) i same in
    omega (arith, z, f)
width_before-next width j (y ∷ xs) (suc n) x rest e =
    let r = width_before-next width (suc j) xs n x rest e in
    let i : suc j + n ≡ j + suc n = omega arith in
    let f = ap (λ m. width m x) i in
    omega (arith, r, f)

-- behind the last item all stand before
pub width_before-all : {A : Type 0} (width : ℕ → A → ℕ) (j : ℕ) (xs : List A) (n : ℕ) → drop n xs ≡ [] → width_before width j xs n ≡ whole_width width j xs
width_before-all width j [] n e = refl
width_before-all width j (y ∷ xs) zero e = cc
width_before-all width j (y ∷ xs) (suc n) e = ap (λ m. width j y + m) (width_before-all width (suc j) xs n e)

drop-append : {X : Type 0} (xs ys : List X) (n : ℕ) → drop (length xs + n) (xs ++ ys) ≡ drop n ys
drop-append [] ys n = let e : 0 + n ≡ n = omega arith in ap (λ k. drop k ys) e
drop-append (x ∷ xs) ys n =
    let e : length (x ∷ xs) + n ≡ suc (length xs + n) = omega arith in
    ap (λ k. drop k (x ∷ (xs ++ ys))) e ∙ drop-append xs ys n

module _ {A X : Type 0} (contents : ℕ → ℕ → A → List X) (width : ℕ → A → ℕ) (sizes : (j k : ℕ) (x : A) → length (contents j k x) ≡ width j x) where
  pub length-spread : (j k : ℕ) (xs : List A) → length (spread contents width j k xs) ≡ whole_width width j xs
  length-spread j k [] = refl
  length-spread j k (x ∷ xs) = length-append (contents j k x) (spread contents width (suc j) (k + width j x) xs) ∙ ap₂ (λ m n. m + n) (sizes j k x) (length-spread (suc j) (k + width j x) xs)

  -- the n-th item's contents stand behind those of the items before it, and the others' behind them
  pub spread-drop : (j k : ℕ) (xs : List A) (n : ℕ) (x : A) (rest : List A) → drop n xs ≡ x ∷ rest
      → drop (width_before width j xs n) (spread contents width j k xs) ≡ contents (j + n) (k + width_before width j xs n) x ++ spread contents width (suc (j + n)) (k + width_before width j xs n + width (j + n) x) rest
  spread-drop j k [] zero x rest e = cc
  spread-drop j k [] (suc n) x rest e = cc
  spread-drop j k (y ∷ xs) zero x rest e =
      let same : y ≡ x = cc in let others : xs ≡ rest = cc in
      let i : j ≡ j + 0 = omega arith in
      let z : k ≡ k + 0 = omega arith in
      subst (λ m. drop 0 (spread contents width j k (y ∷ xs)) ≡ contents (j + 0) m x ++ spread contents width (suc (j + 0)) (m + width (j + 0) x) rest) z
      (subst (λ m. drop 0 (spread contents width j k (y ∷ xs)) ≡ contents m k x ++ spread contents width (suc m) (k + width m x) rest) i
      (ap₂ (λ a ys. contents j k a ++ spread contents width (suc j) (k + width j a) ys) same others))
  spread-drop j k (y ∷ xs) (suc n) x rest e =
      let before = width_before width (suc j) xs n in
      let i : suc j + n ≡ j + suc n = omega arith in
      let p : k + width j y + before ≡ k + (width j y + before) = omega arith in
      ap (λ m. drop (m + before) (spread contents width j k (y ∷ xs))) (sym (sizes j k y))
      ∙ drop-append (contents j k y) (spread contents width (suc j) (k + width j y) xs) before
      ∙ spread-drop (suc j) (k + width j y) xs n x rest e
      ∙ ap (λ m. contents m (k + width j y + before) x ++ spread contents width (suc m) (k + width j y + before + width m x) rest) i
      ∙ ap (λ m. contents (j + suc n) m x ++ spread contents width (suc (j + suc n)) (m + width (j + suc n) x) rest) p

-- two rows, one behind the other
pub InRow-append : {P : Type 0} (place width : P → ℕ) (a : ℕ) (ps qs : List P) → InRow place width a ps → InRow place width (a + weigh width ps) qs → InRow place width a (ps ++ qs)
InRow-append place width a [] qs r s = let e : a + 0 ≡ a = omega arith in subst (λ m. InRow place width m qs) e s
InRow-append place width a (p ∷ ps) qs r s =
    let e : a + (width p + weigh width ps) ≡ a + width p + weigh width ps = omega arith in
    (r.0, InRow-append place width (a + width p) ps qs r.1 (subst (λ m. InRow place width m qs) e s))

-- the points of all items stand in a row, where each item's do and weigh as much as it is wide
module _ {A P : Type 0} (place weight : P → ℕ) (width : ℕ → A → ℕ) (points : ℕ → A → List P) where
  -- the points of an item, the n-th of them
  abbrev PointsFit : ℕ → ℕ → A → Type 0
  PointsFit j a x = InRow place weight a (points j x) × (weigh weight (points j x) ≡ width j x)

  pub all_in_row : (j a : ℕ) (xs : List A) → ((n : ℕ) (x : A) (rest : List A) → drop n xs ≡ x ∷ rest → InRow place weight (a + width_before width j xs n) (points (j + n) x) × (weigh weight (points (j + n) x) ≡ width (j + n) x))
      → InRow place weight a (points_of_all points j xs) × (weigh weight (points_of_all points j xs) ≡ whole_width width j xs)
  all_in_row j a [] each = (tt, refl)
  all_in_row j a (x ∷ xs) each =
      let z : j + 0 ≡ j = omega arith in let y : a + 0 ≡ a = omega arith in
      let one = subst (λ m. PointsFit j m x) y (subst (λ m. PointsFit m (a + 0) x) z (each 0 x xs refl)) in
      let size = one.1 in
      let more = all_in_row (suc j) (a + width j x) xs (λ n u rest e.
      let i : j + suc n ≡ suc j + n = omega arith in
      let p : a + (width j x + width_before width (suc j) xs n) ≡ a + width j x + width_before width (suc j) xs n = omega arith in
      subst (λ m. PointsFit (suc j + n) m u) p (subst (λ m. PointsFit m (a + (width j x + width_before width (suc j) xs n)) u) i (each (suc n) u rest e))) in (
        InRow-append place weight a (points j x) (points_of_all points (suc j) xs) one.0 (subst (λ m. InRow place weight (a + m) (points_of_all points (suc j) xs)) (sym size) more.0),
        weigh-append weight (points j x) (points_of_all points (suc j) xs) ∙ ap₂ (λ m n. m + n) size more.1,
      )
