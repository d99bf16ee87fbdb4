-- Tables that are filled from the front.
use Rattle.std.proofs.Common.{◌≡◌, ℕ, zero, suc, ◌+◌, ◌<◌, ◌≤◌, List, [], ◌∷◌, ◌++◌, map, length, take, Bool, true, false, Some, sum, refl, sym, ap, ap₂, subst, ◌∙◌, ◌⊎◌, inl, inr, arith, append_assoc, get_or}
use Rattle.std.specs.Prelude.{slice_get, slice_index_or, sum_by, filter, cond}
use Rattle.std.proofs.lemmas.Grind.{common_steps, flat_map-append}
use Rattle.std.proofs.lemmas.List.{length-append, take-append-le, map-append, append-nil, take_more}
use Rattle.std.proofs.Math.Seq.{take-append_seam}
use Rattle.std.proofs.lemmas.List.Sums.{sum_by-append, sum_by-cons, sum_by_push}
use Rattle.ob_types.specs.Table.{Table}
use Rattle.ob_types.specs.Layout.{cells, cells_of_all}
use Rattle.ob_types.specs.Meaning.{is_value, texts_of}
use Rattle.ob_types.specs.declared.types.Formal.{Formal}
use Rattle.ob_types.specs.declared.types.Mode.TheVariants.{Value as OfValue}
use Rattle.ob_types.specs.declared.program.Procedure.{Procedure}
use Rattle.eval_layouts.specs.Tables.{AtEach, TableOf, RowTo, values_among}

module _ {A : Type 0} where
  -- what is found behind a push was there, or is the new item
  found : (xs : List A) (x : A) (k : ℕ) (y : A) → slice_get (xs ++ x ∷ []) k ≡ Some y → (slice_get xs k ≡ Some y) × (k < length xs) ⊎ (k ≡ length xs) × (y ≡ x)
  found [] x zero y e = inr (refl, cc)
  found [] x (suc k) y e = absurd (cc)
  found (z ∷ xs) x zero y e = inl (e, omega arith)
  found (z ∷ xs) x (suc k) y e = more (found xs x k y e)
    where
      more : (slice_get xs k ≡ Some y) × (k < length xs) ⊎ (k ≡ length xs) × (y ≡ x) → (slice_get (z ∷ xs) (suc k) ≡ Some y) × (suc k < length (z ∷ xs)) ⊎ (suc k ≡ length (z ∷ xs)) × (y ≡ x)
      more (inl h) = let l = h.1 in inl (h.0, omega (arith, l))
      more (inr h) = let l = h.0 in inr (omega (arith, l), h.1)

  pub each_none : (P : ℕ → A → Type 0) → AtEach P []
  each_none P k x e = absurd (cc)

  pub each_more : (P : ℕ → A → Type 0) (xs : List A) (x : A) → AtEach P xs → P (length xs) x → AtEach P (xs ++ x ∷ [])
  each_more P xs x h new k y e = by (found xs x k y e)
    where
      by : (slice_get xs k ≡ Some y) × (k < length xs) ⊎ (k ≡ length xs) × (y ≡ x) → P k y
      by (inl f) = h k y f.0
      by (inr f) = subst (λ n. P n y) (sym f.0) (subst (P (length xs)) (sym f.1) new)

  -- an item that is there, whatever stands for those that aren't
  pub there : (xs : List A) (k : ℕ) (x d e : A) → k < length xs → x ≡ get_or xs k e → x ≡ slice_index_or xs k d
  there [] k x d e l is = absurd (omega (arith, l))
  there (y ∷ xs) zero x d e l is = is
  there (y ∷ xs) (suc k) x d e l is = there xs k x d e (omega (arith, l)) is

  pub got : (xs : List A) (k : ℕ) (x d : A) → slice_get xs k ≡ Some x → x ≡ slice_index_or xs k d
  got [] k x d e = absurd (cc)
  got (y ∷ xs) zero x d e = cc
  got (y ∷ xs) (suc k) x d e = got xs k x d e

-- the cells of variables of more types
pub cells_more : (t : Table) (kinds : List ℕ) (k : ℕ) → cells_of_all t (kinds ++ k ∷ []) ≡ cells_of_all t kinds + cells t k
cells_more t [] k = let a = sum_by-cons (λ x. x) (cells t k) [] in omega (arith, a)
cells_more t (j ∷ kinds) k =
    let a = sum_by-cons (λ x. x) (cells t j) (map (cells t) (kinds ++ k ∷ [])) in
    let b = sum_by-cons (λ x. x) (cells t j) (map (cells t) kinds) in
    let i = cells_more t kinds k in
    omega (arith, a, b, i)

pub cells_add : (t : Table) (kinds : List ℕ) (i d : ℕ) → i < length kinds → cells_of_all t (take (i + 1) kinds) ≡ cells_of_all t (take i kinds) + cells t (get_or kinds i d)
cells_add t kinds i d h = ap (cells_of_all t) (take_more kinds i d h) ∙ cells_more t (take i kinds) (get_or kinds i d)

-- rows of variables
pub row_none : (t : Table) (first : ℕ) → RowTo t first [] [] first
row_none t first = record { places = each_none (λ k n. n ≡ first + cells_of_all t (take k [])); many = refl; ends = omega arith }

pub row_more : (t : Table) (first : ℕ) (kinds row : List ℕ) (end k n : ℕ) → RowTo t first kinds row end → n ≡ cells t k → RowTo t first (kinds ++ k ∷ []) (row ++ end ∷ []) (end + n)
row_more t first kinds row end k n r is =
    record {
      places = λ i m e. by i m (found row end i m e);
      many = let a = r.many in let b = length-append row (end ∷ []) in let c = length-append kinds (k ∷ []) in omega (arith, a, b, c);
      ends = let a = r.ends in let b = cells_more t kinds k in omega (arith, a, b, is);
    }
  where
    by : (i m : ℕ) → (slice_get row i ≡ Some m) × (i < length row) ⊎ (i ≡ length row) × (m ≡ end) → m ≡ first + cells_of_all t (take i (kinds ++ k ∷ []))
    by i m (inl f) = let l = f.1 in let a = r.many in r.places i m f.0 ∙ ap (λ ks. first + cells_of_all t ks) (sym (take-append-le i kinds (k ∷ []) (omega (arith, a, l))))
    by i m (inr f) = f.1 ∙ r.ends ∙ ap (λ ks. first + cells_of_all t ks) (sym (ap (λ j. take j (kinds ++ k ∷ [])) (f.0 ∙ r.many) ∙ take-append_seam kinds (k ∷ [])))

pub row_on : (t : Table) (first : ℕ) (types kinds row : List ℕ) (end i d n : ℕ) → i < length kinds → RowTo t first (types ++ take i kinds) row end → n ≡ cells t (get_or kinds i d) → RowTo t first (types ++ take (i + 1) kinds) (row ++ end ∷ []) (end + n)
row_on t first types kinds row end i d n l r is =
    subst (λ ks. RowTo t first ks (row ++ end ∷ []) (end + n)) (append_assoc types (take i kinds) (get_or kinds i d ∷ []) ∙ ap (λ ks. types ++ ks) (sym (take_more kinds i d l))) (row_more t first (types ++ take i kinds) row end (get_or kinds i d) n r is)

module _ {A : Type 0} where
  -- one more item at the end of a table that is filled so far
  pub each_step : (P : ℕ → A → Type 0) (xs ys : List A) (x : A) (i : ℕ) → AtEach P xs → length xs ≡ i → ys ≡ xs ++ x ∷ [] → P i x → (length ys ≡ i + 1) × AtEach P ys
  each_step P xs ys x i h many is new =
      let a = length-append xs (x ∷ []) in
      let b = ap (λ (l : List A). length l) is in
      (omega (arith, a, b, many), subst (AtEach P) (sym is) (each_more P xs x h (subst (λ n. P n x) (sym many) new)))

  pub whole_taken : (xs : List A) (i : ℕ) → length xs ≤ i → take i xs ≡ xs
  whole_taken xs i h = grind (arith, common_steps)

-- a row that begins at 0
pub row_table : (t : Table) (kinds row : List ℕ) (end : ℕ) → RowTo t 0 kinds row end → TableOf (λ v. cells_of_all t (take v kinds)) row
row_table t kinds row end r k n e = let a = r.places k n e in omega (arith, a)

-- the texts of one more procedure
pub texts_more : (qs : List Procedure) (q : Procedure) → length (texts_of (qs ++ q ∷ [])) ≡ length (texts_of qs) + length q.texts
texts_more qs q =
    let a = length-append (texts_of qs) (texts_of (q ∷ [])) in
    let b = ap (λ (l : List (List ℕ)). length l) (flat_map-append (λ (q : Procedure). q.texts) qs (q ∷ [])) in
    let c = ap (λ (l : List (List ℕ)). length l) (append-nil q.texts) in
    omega (arith, a, b, c)

-- the scalar value parameters of two lists
values_by : (b : Bool) (x : Formal) (xs ys zs : List Formal) → values_among zs ≡ values_among xs ++ values_among ys → map (λ (x : Formal). x.type_number) (cond b (x ∷ filter (λ x. is_value x.mode) zs) (filter (λ x. is_value x.mode) zs)) ≡ map (λ (x : Formal). x.type_number) (cond b (x ∷ filter (λ x. is_value x.mode) xs) (filter (λ x. is_value x.mode) xs)) ++ values_among ys
values_by true x xs ys zs h = ap (λ l. x.type_number ∷ l) h
values_by false x xs ys zs h = h

pub values_more : (xs ys : List Formal) → values_among (xs ++ ys) ≡ values_among xs ++ values_among ys
values_more [] ys = refl
values_more (x ∷ xs) ys = values_by (is_value x.mode) x xs ys (xs ++ ys) (values_more xs ys)

-- a scalar value parameter
pub one_value : (x : Formal) → x.mode ≡ OfValue → values_among (x ∷ []) ≡ x.type_number ∷ []
one_value x is = ap (λ m. map (λ (x : Formal). x.type_number) (cond (is_value m) (x ∷ []) [])) is

module _ {A : Type 0} where
  pub get_there : (xs : List A) (k : ℕ) (x : A) → k < length xs → x ≡ get_or xs k x → slice_get xs k ≡ Some x
  get_there [] k x l is = absurd (omega (arith, l))
  get_there (y ∷ xs) zero x l is = ap Some (sym is)
  get_there (y ∷ xs) (suc k) x l is = get_there xs k x (omega (arith, l)) is
