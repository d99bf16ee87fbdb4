-- Homes that are marked.
use Rattle.std.proofs.Common.{◌≡◌, ℕ, Bool, true, false, cond, List, [], ◌∷◌, ◌++◌, refl, sym, ap, ◌∙◌}
use Rattle.std.specs.Prelude.{◌==◌}
use Rattle.block_runs.specs.Live.{has}
use Rattle.lir_core.specs.declared.flow.Flow.{Flow}
use Rattle.lir_core.specs.Spots.{IsRising}
use Rattle.loc_state.specs.Homed.{inserted}
use Rattle.loc_state.proofs.Homing.{has_inserted, inserted_rises}
use Rattle.loc_back.specs.Marks.{marked_one, marked, starts_marked, ends_marked}

pub marked_append : (homed xs ys marks : List ℕ) → marked homed (xs ++ ys) marks ≡ marked homed ys (marked homed xs marks)
marked_append homed [] ys marks = refl
marked_append homed (x ∷ xs) ys marks = marked_append homed xs ys (marked_one homed x marks)

pub marked_both : (homed xs ys marks : List ℕ) → marked homed ys (marked homed xs marks) ≡ marked homed (xs ++ (ys ++ [])) marks
marked_both homed xs ys marks = sym (marked_append homed xs (ys ++ []) marks ∙ marked_append homed ys [] (marked homed xs marks))

-- what is marked is homed, and one of the values
pub has_marked : (homed vs marks : List ℕ) (w : ℕ) → has (marked homed vs marks) w ≡ cond (cond (has vs w) (has homed w) false) true (has marks w)
has_marked homed [] marks w = refl
has_marked homed (v ∷ vs) marks w = has_marked homed vs (marked_one homed v marks) w ∙ by (has homed v) refl
  where
    at_same : (b : Bool) → (v == w) ≡ b → has homed v ≡ true → cond (cond (has vs w) (has homed w) false) true (cond b true (has marks w)) ≡ cond (cond (cond b true (has vs w)) (has homed w) false) true (has marks w)
    at_same true e h = ap (λ c. cond (cond (has vs w) c false) true true) here ∙ by_has (has vs w) ∙ sym (ap (λ c. cond c true (has marks w)) here)
      where
        here : has homed w ≡ true
        here = ap (has homed) (sym (Rattle.loc_state.proofs.Numbers.numbers_same v w e)) ∙ h

        by_has : (c : Bool) → cond (cond c true false) true true ≡ true
        by_has true = refl
        by_has false = refl
    at_same false e h = refl

    at_other : (b : Bool) → (v == w) ≡ b → has homed v ≡ false → cond (cond (has vs w) (has homed w) false) true (has marks w) ≡ cond (cond (cond b true (has vs w)) (has homed w) false) true (has marks w)
    at_other true e h = ap (λ c. cond (cond (has vs w) c false) true (has marks w)) here ∙ by_has (has vs w) ∙ sym (ap (λ c. cond c true (has marks w)) here)
      where
        here : has homed w ≡ false
        here = ap (has homed) (sym (Rattle.loc_state.proofs.Numbers.numbers_same v w e)) ∙ h

        by_has : (c : Bool) → cond (cond c false false) true (has marks w) ≡ has marks w
        by_has true = refl
        by_has false = refl
    at_other false e h = refl

    by : (c : Bool) → has homed v ≡ c → cond (cond (has vs w) (has homed w) false) true (has (cond c (inserted v marks) marks) w) ≡ cond (cond (cond (v == w) true (has vs w)) (has homed w) false) true (has marks w)
    by true h = ap (λ c. cond (cond (has vs w) (has homed w) false) true c) (has_inserted v marks w) ∙ at_same (v == w) refl h
    by false h = at_other (v == w) refl h

pub marked_rises : (homed vs marks : List ℕ) → IsRising marks → IsRising (marked homed vs marks)
marked_rises homed [] marks r = r
marked_rises homed (v ∷ vs) marks r = marked_rises homed vs (marked_one homed v marks) (by (has homed v))
  where
    by : (b : Bool) → IsRising (cond b (inserted v marks) marks)
    by true = inserted_rises v marks r
    by false = r

---- Places of nodes

pub no_starts : (f : Flow) (rows : List (List ℕ)) (homed ns : List ℕ) → starts_marked f rows homed ns [] ≡ []
no_starts f rows homed [] = refl
no_starts f rows homed (n ∷ ns) = refl

pub no_ends : (f : Flow) (rows : List (List ℕ)) (homed ns : List ℕ) → ends_marked f rows homed ns [] ≡ []
no_ends f rows homed [] = refl
no_ends f rows homed (n ∷ ns) = refl
