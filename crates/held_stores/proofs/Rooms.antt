-- Where the variables of modules and the strings stand behind the start of the globals: each in a room of its own.
use Rattle.std.proofs.Common.{◌≡◌, ℕ, zero, suc, ◌+◌, ◌*◌, ◌<◌, ◌≤◌, ◌⊎◌, ⊎_elim, inl, inr, List, [], ◌∷◌, map, length, take, Bool, true, false, ◌&&◌, Some, refl, sym, ap, ◌∙◌, arith}
use Rattle.std.specs.Prelude.{sum, sum_by, slice_get, slice_index_or}
use Rattle.std.proofs.lemmas.Bool.{cases_lt}
use Rattle.std.proofs.lemmas.List.Sums.{sum_by-cons}
use Rattle.ob_types.specs.Forms.{Small}
use Rattle.ob_types.specs.Meaning.{globals_of, texts_of}
use Rattle.ob_types.specs.Trees.{Scalar, Array, scalar_bytes, tree_bytes, data_tree}
use Rattle.ob_types.specs.declared.program.Module.{Module}
use Rattle.ob_types.specs.declared.program.Program.{Program}
use Rattle.ob_types.proofs.Tests.{none_some, some_same}
use Rattle.object_nodes.specs.Addresses.{Sides}
use Rattle.ssa_lowered.specs.Data.{Layout, IsLayout, rounded, room, room_of_all, modules_room, global_at, globals_room, descriptor_at, text_room, text_at}

-- the sum of the first ones, with one that is behind them, isn't over that of more
sums_rise : {A : Type 0} (f : A → ℕ) (xs : List A) (v w : ℕ) (x : A) → v < w → slice_get xs v ≡ Some x → sum_by f (take v xs) + f x ≤ sum_by f (take w xs)
sums_rise f [] v w x lt at = none_some x at
sums_rise f (y ∷ xs) v zero x lt at = absurd (omega (arith, lt))
sums_rise f (y ∷ xs) zero (suc w) x lt at =
    let e = ap f (some_same y x at) in let s = sum_by-cons f y (take w xs) in
    omega (arith, e, s)
sums_rise f (y ∷ xs) (suc v) (suc w) x lt at =
    let h = sums_rise f xs v w x (omega (arith, lt)) at in
    let s = sum_by-cons f y (take v xs) in let z = sum_by-cons f y (take w xs) in
    omega (arith, h, s, z)

-- nor over the whole sum
sums_within : {A : Type 0} (f : A → ℕ) (xs : List A) (v : ℕ) (x : A) → slice_get xs v ≡ Some x → sum_by f (take v xs) + f x ≤ sum_by f xs
sums_within f [] v x at = none_some x at
sums_within f (y ∷ xs) zero x at = let e = ap f (some_same y x at) in let s = sum_by-cons f y xs in omega (arith, e, s)
sums_within f (y ∷ xs) (suc v) x at =
    let h = sums_within f xs v x at in
    let s = sum_by-cons f y (take v xs) in let z = sum_by-cons f y xs in
    omega (arith, h, s, z)

-- two of some things that stand one behind the other
sums_apart : {A : Type 0} (f : A → ℕ) (xs : List A) (v w : ℕ) (x y : A) → slice_get xs v ≡ Some x → slice_get xs w ≡ Some y → (v ≡ w) ⊎ Sides (sum_by f (take v xs)) (f x) (sum_by f (take w xs)) (f y)
sums_apart f xs v w x y at to = ⊎_elim
    (λ (lt : v < w). inr (inl (sums_rise f xs v w x lt at)))
    (λ (ge : w ≤ v). ⊎_elim
    (λ (lt : w < v). inr (inr (sums_rise f xs w v y lt to)))
    (λ (le : v ≤ w). inl (omega (arith, le, ge)))
    (cases_lt w v))
    (cases_lt v w)

rooms_are : (l : Layout) (ks : List ℕ) → room_of_all l ks ≡ sum_by (room l) ks
rooms_are l [] = refl
rooms_are l (k ∷ ks) =
    let s = sum_by-cons (λ n. n) (room l k) (map (room l) ks) in
    let z = sum_by-cons (room l) k ks in
    let h = rooms_are l ks in
    omega (arith, s, z, h)

room_fits : (n : ℕ) → n ≤ rounded n
room_fits n = omega arith

module _ (p : Program) (packed : Bool) (l : Layout) (is : IsLayout packed p.types l) where
  type_fits : (k : ℕ) → tree_bytes packed (data_tree p.types k) ≤ room l k
  type_fits k = let e = is.bytes k in let f = room_fits (l.bytes k) in omega (arith, e, f)

  ---- Variables of modules

  abbrev module_room : Module → ℕ
  module_room m = room_of_all l m.variables

  index_is : {A : Type 0} (xs : List A) (i : ℕ) (x d : A) → slice_get xs i ≡ Some x → slice_index_or xs i d ≡ x
  index_is [] i x d at = none_some x at
  index_is (y ∷ xs) zero x d at = some_same y x at
  index_is (y ∷ xs) (suc i) x d at = index_is xs i x d at

  take_all : {A : Type 0} (xs : List A) → take (length xs) xs ≡ xs
  take_all [] = refl
  take_all (x ∷ xs) = ap (λ ys. x ∷ ys) (take_all xs)

  -- where a variable of a module begins
  pub global_is : (m v : ℕ) (x : Module) → slice_get p.modules m ≡ Some x → global_at p l m v ≡ 8 + (sum_by module_room (take m p.modules) + sum_by (room l) (take v x.variables))
  global_is m v x at =
      let e = ap (λ (x : Module). room_of_all l (take v x.variables)) (index_is p.modules m x (record { name = []; objects = []; variables = []; body = 0 }) at) in
      let f = rooms_are l (take v x.variables) in
      omega (arith, e, f)

  pub globals_end : globals_room p l ≡ 8 + sum_by module_room p.modules
  globals_end = let e = ap (λ ms. sum_by module_room ms) (take_all p.modules) in omega (arith, e)

  -- it lies behind In.Done and before the end of the globals
  pub global_within : (m v k : ℕ) (x : Module) → slice_get p.modules m ≡ Some x → slice_get x.variables v ≡ Some k
      → (8 ≤ global_at p l m v) × (global_at p l m v + tree_bytes packed (data_tree p.types k) ≤ globals_room p l)
  global_within m v k x at to =
      let e = global_is m v x at in
      let a = sums_within module_room p.modules m x at in
      let b = sums_within (room l) x.variables v k to in
      let c = rooms_are l x.variables in
      let d = type_fits k in
      let f = globals_end in
      (omega (arith, e), omega (arith, e, a, b, c, d, f))

  -- two of them are one, or share no byte
  pub globals_apart : (m v k : ℕ) (x : Module) (n w j : ℕ) (y : Module) → slice_get p.modules m ≡ Some x → slice_get x.variables v ≡ Some k → slice_get p.modules n ≡ Some y → slice_get y.variables w ≡ Some j
      → ((m ≡ n) × (v ≡ w)) ⊎ Sides (global_at p l m v) (tree_bytes packed (data_tree p.types k)) (global_at p l n w) (tree_bytes packed (data_tree p.types j))
  globals_apart m v k x n w j y at to at2 to2 = ⊎_elim
      (λ (lt : m < n). inr (inl (before m v k x n w at to at2 lt)))
      (λ (ge : n ≤ m). ⊎_elim
      (λ (lt : n < m). inr (inr (before n w j y m v at2 to2 at lt)))
      (λ (le : m ≤ n). let same : m ≡ n = omega (arith, le, ge) in one same)
      (cases_lt n m))
      (cases_lt m n)
    where
      before : (m v k : ℕ) (x : Module) (n w : ℕ) {y : Module} → slice_get p.modules m ≡ Some x → slice_get x.variables v ≡ Some k → slice_get p.modules n ≡ Some y → m < n
          → global_at p l m v + tree_bytes packed (data_tree p.types k) ≤ global_at p l n w
      before m v k x n w {y} at to at2 lt =
          let e = global_is m v x at in
          let f = global_is n w y at2 in
          let a = sums_rise module_room p.modules m n x lt at in
          let b = sums_within (room l) x.variables v k to in
          let c = rooms_are l x.variables in
          let d = type_fits k in
          omega (arith, e, f, a, b, c, d)

      moved : global_at p l m v ≡ 8 + (sum_by module_room (take m p.modules) + sum_by (room l) (take v x.variables)) → global_at p l n w ≡ 8 + (sum_by module_room (take n p.modules) + sum_by (room l) (take w y.variables))
          → sum_by module_room (take m p.modules) ≡ sum_by module_room (take n p.modules) → sum_by (room l) (take w x.variables) ≡ sum_by (room l) (take w y.variables)
          → tree_bytes packed (data_tree p.types k) ≤ room l k → tree_bytes packed (data_tree p.types j) ≤ room l j
          → Sides (sum_by (room l) (take v x.variables)) (room l k) (sum_by (room l) (take w x.variables)) (room l j)
          → Sides (global_at p l m v) (tree_bytes packed (data_tree p.types k)) (global_at p l n w) (tree_bytes packed (data_tree p.types j))
      moved e f g h a b (inl z) = inl (omega (arith, e, f, g, h, a, z))
      moved e f g h a b (inr z) = inr (omega (arith, e, f, g, h, b, z))

      one : m ≡ n → ((m ≡ n) × (v ≡ w)) ⊎ Sides (global_at p l m v) (tree_bytes packed (data_tree p.types k)) (global_at p l n w) (tree_bytes packed (data_tree p.types j))
      one same =
          let mine : x ≡ y = some_same x y (sym at ∙ ap (λ i. slice_get p.modules i) same ∙ at2) in
          let there : slice_get x.variables w ≡ Some j = ap (λ (z : Module). slice_get z.variables w) mine ∙ to2 in
          let e = global_is m v x at in
          let f = global_is n w y at2 in
          let g = ap (λ i. sum_by module_room (take i p.modules)) same in
          let h = ap (λ (z : Module). sum_by (room l) (take w z.variables)) mine in
          let a = type_fits k in let b = type_fits j in
          ⊎_elim
          (λ (z : v ≡ w). inl (same, z))
          (λ (z : Sides (sum_by (room l) (take v x.variables)) (room l k) (sum_by (room l) (take w x.variables)) (room l j)). inr (moved e f g h a b z))
          (sums_apart (room l) x.variables v w k j to there)

  ---- Strings

  abbrev texts : List (List ℕ)
  texts = texts_of p.procedures

  character_is : l.character ≡ scalar_bytes (packed && true)
  character_is = is.character ∙ ap scalar_bytes (sym (and_true packed))
    where
      and_true : (b : Bool) → (b && true) ≡ b
      and_true true = refl
      and_true false = refl

  -- a string's characters lie in its room
  text_fits : (xs : List ℕ) → tree_bytes packed (Array (suc (length xs)) (Scalar Small)) ≤ text_room l xs
  text_fits xs =
      let e = ap (λ n. n * suc (length xs)) character_is in
      let f = room_fits (l.character * suc (length xs)) in
      let g : suc (length xs) * scalar_bytes (packed && true) ≡ scalar_bytes (packed && true) * suc (length xs) = omega arith in
      omega (arith, e, f, g)

  pub text_within : (o : ℕ) (xs : List ℕ) → slice_get texts o ≡ Some xs
      → (descriptor_at p l (length p.types.records) ≤ text_at p l o) × (text_at p l o + tree_bytes packed (Array (suc (length xs)) (Scalar Small)) ≤ descriptor_at p l (length p.types.records) + sum_by (text_room l) texts)
  text_within o xs at =
      let a = sums_within (text_room l) texts o xs at in
      let b = text_fits xs in
      (omega arith, omega (arith, a, b))

  pub texts_apart : (o q : ℕ) (xs ys : List ℕ) → slice_get texts o ≡ Some xs → slice_get texts q ≡ Some ys
      → (o ≡ q) ⊎ Sides (text_at p l o) (tree_bytes packed (Array (suc (length xs)) (Scalar Small))) (text_at p l q) (tree_bytes packed (Array (suc (length ys)) (Scalar Small)))
  texts_apart o q xs ys at to = ⊎_elim
      (λ (e : o ≡ q). inl e)
      (λ (z : Sides (sum_by (text_room l) (take o texts)) (text_room l xs) (sum_by (text_room l) (take q texts)) (text_room l ys)). inr (moved (text_fits xs) (text_fits ys) z))
      (sums_apart (text_room l) texts o q xs ys at to)
    where
      moved : tree_bytes packed (Array (suc (length xs)) (Scalar Small)) ≤ text_room l xs → tree_bytes packed (Array (suc (length ys)) (Scalar Small)) ≤ text_room l ys
          → Sides (sum_by (text_room l) (take o texts)) (text_room l xs) (sum_by (text_room l) (take q texts)) (text_room l ys)
          → Sides (text_at p l o) (tree_bytes packed (Array (suc (length xs)) (Scalar Small))) (text_at p l q) (tree_bytes packed (Array (suc (length ys)) (Scalar Small)))
      moved a b (inl z) = inl (omega (arith, a, z))
      moved a b (inr z) = inr (omega (arith, b, z))
