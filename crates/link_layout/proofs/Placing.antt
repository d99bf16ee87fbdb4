-- Starts from lists of widths are the places that layout defines.
use Rattle.std.proofs.Common.{◌≡◌, ℕ, zero, suc, ◌+◌, ◌<◌, ◌≤◌, ◌^◌, List, [], ◌∷◌, length, get_or, drop, Ok, Err, refl, arith, sym, ap, ◌∙◌}
use Rattle.std.specs.Prelude.{Result, IfOk, IfErr, IsErr, IsErrAnd}
use Rattle.std.proofs.lemmas.List.{drop_more}
use Rattle.run_laws.specs.Layers.{width_before, whole_width}
use Rattle.placed_code.specs.Placed.{Placed}
use Rattle.placed_code.specs.Layout.{proc_width, body_count, procedures_at, all_words}
use Rattle.placed_code.proofs.Linking.{all_size}
use Rattle.link_words.specs.Fields.{InReach, entry_in}
use Rattle.link_layout.specs.Starts.{starts_from, end_from}
use Rattle.link_layout.specs.Widths.{widths_of, AreWidths, AreEntries}

module _ {A : Type 0} (width : ℕ → A → ℕ) where
  pub starts_length : (k j : ℕ) (xs : List A) → length (starts_from k (widths_of width j xs)) ≡ length xs
  starts_length k j [] = refl
  starts_length k j (x ∷ xs) = ap suc (starts_length (k + width j x) (suc j) xs)

  pub starts_at : (k j : ℕ) (xs : List A) (n : ℕ) → n < length xs → entry_in (starts_from k (widths_of width j xs)) n ≡ k + width_before width j xs n
  starts_at k j [] n l = absurd (omega (arith, l))
  starts_at k j (x ∷ xs) zero l = omega arith
  starts_at k j (x ∷ xs) (suc n) l = let r = starts_at (k + width j x) (suc j) xs n (omega (arith, l)) in omega (arith, r)

  pub ends_at : (k j : ℕ) (xs : List A) → end_from k (widths_of width j xs) ≡ k + whole_width width j xs
  ends_at k j [] = omega arith
  ends_at k j (x ∷ xs) = let r = ends_at (k + width j x) (suc j) xs in omega (arith, r)

pub end_from-le : (k : ℕ) (ws : List ℕ) → k ≤ end_from k ws
end_from-le k [] = omega arith
end_from-le k (w ∷ ws) = let r = end_from-le (k + w) ws in omega (arith, r)

-- no part begins behind the end of all
pub reach_from : (k : ℕ) (ws : List ℕ) → end_from k ws ≤ 2 ^ 18 → InReach (starts_from k ws)
reach_from k [] l p = omega arith
reach_from k (w ∷ ws) l zero = let more = end_from-le (k + w) ws in omega (arith, more, l)
reach_from k (w ∷ ws) l (suc p) = reach_from (k + w) ws l p

first_is : (ps : List Placed) (bodies first : ℕ) → body_count ps ≡ bodies → first ≡ bodies + 1 + 38 → first ≡ procedures_at ps
first_is ps bodies first b f = omega (arith, b, f)

pub entries_are : (ps : List Placed) (bodies first : ℕ) (widths entries : List ℕ) → first ≡ bodies + 1 + 38 → entries ≡ starts_from first widths → AreWidths ps bodies widths → AreEntries ps entries
entries_are ps bodies first widths entries f e is =
    let at = first_is ps bodies first is.bodies_are f in
    let same : entries ≡ starts_from (procedures_at ps) (widths_of proc_width 0 ps) = e ∙ ap (λ (ws : List ℕ). starts_from first ws) is.widths_are ∙ ap (λ m. starts_from m (widths_of proc_width 0 ps)) at in
    record {
      each = ap (λ (xs : List ℕ). length xs) same ∙ starts_length proc_width (procedures_at ps) 0 ps;
      places = λ p l. ap (λ (xs : List ℕ). entry_in xs p) same ∙ starts_at proc_width (procedures_at ps) 0 ps p l;
    }

pub end_is : (ps : List Placed) (bodies first : ℕ) (widths : List ℕ) → first ≡ bodies + 1 + 38 → AreWidths ps bodies widths → end_from first widths ≡ length (all_words ps)
end_is ps bodies first widths f is =
    let at = first_is ps bodies first is.bodies_are f in
    ap (λ (ws : List ℕ). end_from first ws) is.widths_are ∙ ap (λ m. end_from m (widths_of proc_width 0 ps)) at ∙ ends_at proc_width (procedures_at ps) 0 ps ∙ sym (all_size ps)

-- in a width more the image is too long
pub over : (first at : ℕ) (ws : List ℕ) (i : ℕ) → i < length ws → end_from at (drop i ws) ≡ end_from first ws → 2 ^ 18 < at + get_or ws i 0 → 2 ^ 18 < end_from first ws
over first at ws i l same far =
    let next = drop_more ws i 0 l in
    let e : end_from (at + get_or ws i 0) (drop (i + 1) ws) ≡ end_from first ws = sym (ap (λ (xs : List ℕ). end_from at xs) next) ∙ same in
    let more = end_from-le (at + get_or ws i 0) (drop (i + 1) ws) in
    omega (arith, e, more, far)

---- Results

pub ok_more : {A E : Type 0} (P Q : A → Type 0) (r : Result A E) → ((x : A) → P x → Q x) → IfOk r P → IfOk r Q
ok_more P Q (Ok x) f h = f x h
ok_more P Q (Err e) f h = h

pub err_more : {A E : Type 0} (P Q : E → Type 0) (r : Result A E) → ((e : E) → P e → Q e) → IfErr r P → IfErr r Q
err_more P Q (Ok x) f h = h
err_more P Q (Err e) f h = f e h

pub err_so : {A E : Type 0} (Q : E → Type 0) (r : Result A E) → IsErr r → ((e : E) → Q e) → IfErr r Q
err_so Q (Ok x) is f = tt
err_so Q (Err e) is f = f e

-- the start and the routines are in the image
pub too_many : (ps : List Placed) (bodies : ℕ) (widths : List ℕ) → AreWidths ps bodies widths → bodies + 39 ≤ length (all_words ps)
too_many ps bodies widths is = let s = all_size ps in let b = is.bodies_are in omega (arith, s, b)

pub errs_with : {A E : Type 0} (P Q : E → Type 0) (r : Result A E) → IsErrAnd r P → ((e : E) → P e → Q e) → IfErr r Q
errs_with P Q (Ok x) is f = tt
errs_with P Q (Err e) is f = f e is
