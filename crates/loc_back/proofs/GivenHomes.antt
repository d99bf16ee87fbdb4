-- Homes that are given to places one after the other.
use Rattle.std.proofs.Common.{◌≡◌, ◌∙◌, ap, sym, refl, arith, ℕ, suc, ◌≤◌, Bool, true, false, ◌&&◌, cond, List, [], ◌∷◌, ◌++◌, length, filter, append_assoc, length-append}
use Rattle.std.specs.Prelude.{slice_get}
use Rattle.block_runs.specs.Live.{has}
use Rattle.lir_core.specs.declared.flow.Flow.{Flow}
use Rattle.lir_core.specs.declared.places.Places.{Places}
use Rattle.global_live.proofs.Lists.{has-filter}
use Rattle.loc_state.specs.Homed.{inserted, all_inserted}
use Rattle.loc_state.proofs.Homing.{filter_rises, all_inserted_rises, has_all_inserted}
use Rattle.value_sets.proofs.Sets.{same_rising}
use Rattle.loc_back.specs.Marks.{at_start, at_end, marked, put_homes, starts_marked, ends_marked}
use Rattle.loc_back.proofs.MarkedSets.{has_marked, marked_rises}
use Rattle.loc_back.proofs.FrontPlaces.{put_nowhere}

---- The homed ones of some values

-- what of some values is kept by what is homed is what is marked of them
pub kept_marked : (homed vs : List ℕ) → filter (has homed) (all_inserted vs []) ≡ marked homed vs []
kept_marked homed vs =
    same_rising (filter (has homed) (all_inserted vs [])) (marked homed vs []) (filter_rises (has homed) (all_inserted vs []) (all_inserted_rises vs [] tt))
    (marked_rises homed vs [] tt) same
  where
    both : (b c : Bool) → (cond b true false && c) ≡ cond (cond b c false) true false
    both true true = refl
    both true false = refl
    both false c = refl

    same : (w : ℕ) → has (filter (has homed) (all_inserted vs [])) w ≡ has (marked homed vs []) w
    same w =
        has-filter (has homed) (all_inserted vs []) w ∙ ap (λ b. b && has homed w) (has_all_inserted vs [] w)
        ∙ both (has vs w) (has homed w) ∙ sym (has_marked homed vs [] w)

---- Homes by index

-- places from an index on get homes, one after the other
module _ (homes : ℕ → List ℕ) where
  abbrev pub given_from : ℕ → List ℕ → List Places → List Places
  given_from at [] qs = qs
  given_from at (n ∷ ns) qs = given_from (suc at) ns (put_homes at (homes n) qs)

  abbrev pub given : List ℕ → List Places → List Places
  given [] qs = qs
  given (n ∷ ns) [] = []
  given (n ∷ ns) (q ∷ qs) = record q { homed = homes n } ∷ given ns qs

  none_given : (at : ℕ) (ns : List ℕ) (qs : List Places) → length qs ≤ at → given_from at ns qs ≡ qs
  none_given at [] qs l = refl
  none_given at (n ∷ ns) qs l =
      ap (given_from (suc at) ns) (put_nowhere (homes n) at qs l) ∙ none_given (suc at) ns qs (omega (arith, l))

  put_seam : (ps : List Places) (homed : List ℕ) (q : Places) (qs : List Places) → put_homes (length ps) homed (ps ++ q ∷ qs) ≡ (ps ++ record q { homed = homed } ∷ []) ++ qs
  put_seam [] homed q qs = refl
  put_seam (p ∷ ps) homed q qs = ap (λ xs. p ∷ xs) (put_seam ps homed q qs)

  given_behind : (ps : List Places) (ns : List ℕ) (qs : List Places) → given_from (length ps) ns (ps ++ qs) ≡ ps ++ given ns qs
  given_behind ps [] qs = refl
  given_behind ps (n ∷ ns) [] =
      none_given (length ps) (n ∷ ns) (ps ++ []) (omega (arith, length-append ps []))
  given_behind ps (n ∷ ns) (q ∷ qs) =
      let q' : Places = record q { homed = homes n } in
      ap (given_from (suc (length ps)) ns) (put_seam ps (homes n) q qs)
      ∙ ap (λ k. given_from k ns ((ps ++ q' ∷ []) ++ qs)) (omega (arith, length-append ps (q' ∷ [])))
      ∙ given_behind (ps ++ q' ∷ []) ns qs ∙ append_assoc ps (q' ∷ []) (given ns qs)

  all_given : (ns : List ℕ) (qs : List Places) → given_from 0 ns qs ≡ given ns qs
  all_given ns qs = given_behind [] ns qs

module _ (f : Flow) (rows : List (List ℕ)) (homed : List ℕ) where
  abbrev pub start_marks : ℕ → List ℕ
  start_marks n = marked homed (at_start f.values rows n (slice_get f.nodes n)) []

  abbrev pub end_marks : ℕ → List ℕ
  end_marks n = marked homed (at_end f.values rows (slice_get f.nodes n)) []

  starts_are : (ns : List ℕ) (qs : List Places) → given start_marks ns qs ≡ starts_marked f rows homed ns qs
  starts_are [] qs = refl
  starts_are (n ∷ ns) [] = refl
  starts_are (n ∷ ns) (q ∷ qs) = ap (λ xs. record q { homed = start_marks n } ∷ xs) (starts_are ns qs)

  ends_are : (ns : List ℕ) (qs : List Places) → given end_marks ns qs ≡ ends_marked f rows homed ns qs
  ends_are [] qs = refl
  ends_are (n ∷ ns) [] = refl
  ends_are (n ∷ ns) (q ∷ qs) = ap (λ xs. record q { homed = end_marks n } ∷ xs) (ends_are ns qs)

  pub starts_given : (ns : List ℕ) (qs : List Places) → given_from start_marks 0 ns qs ≡ starts_marked f rows homed ns qs
  starts_given ns qs = all_given start_marks ns qs ∙ starts_are ns qs

  pub ends_given : (ns : List ℕ) (qs : List Places) → given_from end_marks 0 ns qs ≡ ends_marked f rows homed ns qs
  ends_given ns qs = all_given end_marks ns qs ∙ ends_are ns qs
