-- Homes of places that are kept from the last one on.
use Rattle.std.proofs.Common.{◌≡◌, ◌∙◌, ap, sym, refl, arith, ℕ, zero, suc, ◌+◌, ◌<◌, ◌≤◌, List, [], ◌∷◌, ◌++◌, length, reverse}
use Rattle.std.specs.Prelude.{slice_set, slice_index_or}
use Rattle.std.proofs.lemmas.List.{reverse-append, reverse-reverse, length-reverse, set-append_left, get_or_append_left}
use Rattle.std.proofs.Math.Seq.{set-append_seam, get_or-append_seam}
use Rattle.lir_core.specs.declared.places.Places.{Places}
use Rattle.loc_back.specs.Marks.{put_homes}

module _ (homed : List ℕ) (d : Places) where
  abbrev pub with_homes : Places → Places
  with_homes q = record q { homed = homed }

  abbrev pub put_at : List Places → ℕ → List Places
  put_at xs k = slice_set xs k (with_homes (slice_index_or xs k d))

  at_seam : (ys : List Places) (x : Places) → reverse (put_at (ys ++ x ∷ []) (length ys)) ≡ with_homes x ∷ reverse ys
  at_seam ys x =
      ap (λ q. reverse (slice_set (ys ++ x ∷ []) (length ys) (with_homes q))) (get_or-append_seam ys x [] d)
      ∙ ap reverse (set-append_seam ys x [] (with_homes x)) ∙ reverse-append ys (with_homes x ∷ [])

  at_left : (ys : List Places) (x : Places) (k : ℕ) → k < length ys → reverse (put_at (ys ++ x ∷ []) k) ≡ x ∷ reverse (put_at ys k)
  at_left ys x k l =
      ap (λ q. reverse (slice_set (ys ++ x ∷ []) k (with_homes q))) (get_or_append_left ys (x ∷ []) d k l)
      ∙ ap reverse (set-append_left ys (x ∷ []) k (with_homes (slice_index_or ys k d)) l) ∙ reverse-append (put_at ys k) (x ∷ [])

  -- the k-th from the last is the one at an index
  put_in : (r : List Places) (at k : ℕ) → k + suc at ≡ length r → reverse (put_at (reverse r) k) ≡ put_homes at homed r
  put_in [] at k e = absurd (omega (arith, e))
  put_in (x ∷ r) zero k e =
      ap (λ xs. reverse (put_at xs k)) (reverse-append (x ∷ []) r) ∙ ap (λ n. reverse (put_at (reverse r ++ x ∷ []) n)) here
      ∙ at_seam (reverse r) x ∙ ap (λ xs. with_homes x ∷ xs) (reverse-reverse r)
    where
      here : k ≡ length (reverse r)
      here = omega (arith, e, length-reverse r)
  put_in (x ∷ r) (suc at) k e =
      ap (λ xs. reverse (put_at xs k)) (reverse-append (x ∷ []) r) ∙ at_left (reverse r) x k (omega (arith, e, length-reverse r))
      ∙ ap (λ xs. x ∷ xs) (put_in r at k (omega (arith, e)))

  pub put_reversed : (xs : List Places) (at k : ℕ) → k + suc at ≡ length xs → reverse (put_at xs k) ≡ put_homes at homed (reverse xs)
  put_reversed xs at k e =
      ap (λ ys. reverse (put_at ys k)) (sym (reverse-reverse xs)) ∙ put_in (reverse xs) at k (omega (arith, e, length-reverse xs))

pub put_nowhere : (homed : List ℕ) (at : ℕ) (qs : List Places) → length qs ≤ at → put_homes at homed qs ≡ qs
put_nowhere homed zero [] l = refl
put_nowhere homed (suc at) [] l = refl
put_nowhere homed zero (q ∷ qs) l = absurd (omega (arith, l))
put_nowhere homed (suc at) (q ∷ qs) l = ap (λ ys. q ∷ ys) (put_nowhere homed at qs (omega (arith, l)))
