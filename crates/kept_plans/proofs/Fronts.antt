-- While the traces above traces are found.
use Rattle.std.proofs.Common.{◌≡◌, ℕ, ◌+◌, ◌<◌, ◌≤◌, List, [], ◌∷◌, ◌++◌, length, drop, get_or, Option, sym, ap, ◌∙◌, subst, append_assoc}
use Rattle.std.proofs.lemmas.List.{drop_more, drop_all, append-nil}
use Rattle.lir_core.specs.declared.flow.Flow.{Flow}
use Rattle.lir_core.specs.declared.flow.Trace.{Trace}
use Rattle.trace_build.specs.Parents.{AreParents}
use Rattle.kept_plans.specs.Above.{AreAllParents}

-- lists for the flows that are left make lists for all
abbrev pub IsFront : List Flow → List (List Trace) → ℕ → List (List (Option ℕ)) → Type 0
IsFront fs cuts i done = (rest : List (List (Option ℕ))) → AreAllParents (drop i fs) (drop i cuts) rest → AreAllParents fs cuts (done ++ rest)

module _ (fs : List Flow) (cuts : List (List Trace)) (i : ℕ) where
  pub whole : (done : List (List (Option ℕ))) → length fs ≤ i → length cuts ≤ i → IsFront fs cuts i done → AreAllParents fs cuts done
  whole done le less front =
      subst (AreAllParents fs cuts) (append-nil done)
      (front [] (subst (λ gs. AreAllParents gs (drop i cuts) []) (sym (drop_all i fs le)) (subst (λ ts. AreAllParents [] ts []) (sym (drop_all i cuts less)) tt)))

  pub front_more : (f : Flow) (ts : List Trace) (ps : List (Option ℕ)) → i < length fs → i < length cuts → f ≡ get_or fs i f → ts ≡ get_or cuts i []
      → (done after : List (List (Option ℕ))) → IsFront fs cuts i done → AreParents f ts ps → after ≡ done ++ ps ∷ [] → IsFront fs cuts (i + 1) after
  front_more f ts ps lt less item own done after front one more rest h =
      let next : drop i fs ≡ f ∷ drop (i + 1) fs = drop_more fs i f lt ∙ ap (λ g. g ∷ drop (i + 1) fs) (sym item) in
      let behind : drop i cuts ≡ ts ∷ drop (i + 1) cuts = drop_more cuts i [] less ∙ ap (λ us. us ∷ drop (i + 1) cuts) (sym own) in
      subst (AreAllParents fs cuts) (sym (append_assoc done (ps ∷ []) rest) ∙ ap (λ xs. xs ++ rest) (sym more))
      (front (ps ∷ rest) (subst (λ gs. AreAllParents gs (drop i cuts) (ps ∷ rest)) (sym next) (subst (λ us. AreAllParents (f ∷ drop (i + 1) fs) us (ps ∷ rest)) (sym behind) (one, h))))
