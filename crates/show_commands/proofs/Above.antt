-- The traces above traces are one.
use Rattle.std.proofs.Common.{◌≡◌, ℕ, ◌<◌, ◌⊎◌, List, [], ◌∷◌, Bool, true, false, Option, Some, None, refl, sym, ap, ap₂, ◌∙◌, arith, inl, inr}
use Rattle.std.specs.Prelude.{slice_index_or}
use Rattle.std.proofs.lemmas.List.{ext_get_or}
use Rattle.block_runs.specs.Blocks.{CodeBlock}
use Rattle.lir_core.specs.declared.flow.Flow.{Flow}
use Rattle.lir_core.specs.declared.flow.Trace.{Trace}
use Rattle.lir_core.specs.Flows.{code_nodes}
use Rattle.trace_build.specs.Parents.{AreParents, IsParent, is_above}
use Rattle.program_page.specs.kept_plans.Above.{AreAllParents}

apart : (b : Bool) → b ≡ true → b ≡ false → ⊥
apart b e f = cc

one_or_other : (p q : ℕ) → (p ≡ q) ⊎ ((p < q) ⊎ (q < p))
one_or_other p q = grind arith

-- a trace has one above it, or none
module _ (bls : List CodeBlock) (traces : List Trace) (t : ℕ) where
  one_number : (p q : ℕ) → IsParent bls traces t (Some p) → IsParent bls traces t (Some q) → (p ≡ q) ⊎ ((p < q) ⊎ (q < p)) → p ≡ q
  one_number p q x y (inl e) = e
  one_number p q x y (inr (inl l)) = absurd (apart (is_above bls traces p t) x.1 (y.2 p l))
  one_number p q x y (inr (inr l)) = absurd (apart (is_above bls traces q t) y.1 (x.2 q l))

  one_parent : (o q : Option ℕ) → IsParent bls traces t o → IsParent bls traces t q → o ≡ q
  one_parent None None x y = refl
  one_parent None (Some q) x y = absurd (apart (is_above bls traces q t) y.1 (x q y.0))
  one_parent (Some p) None x y = absurd (apart (is_above bls traces p t) x.1 (y p x.0))
  one_parent (Some p) (Some q) x y = ap Some (one_number p q x y (one_or_other p q))

one_list : (f : Flow) (traces : List Trace) (ps qs : List (Option ℕ)) → AreParents f traces ps → AreParents f traces qs → ps ≡ qs
one_list f traces ps qs x y =
    let many = x.each in
    ext_get_or None ps qs (x.each ∙ sym y.each) (λ t lt. one_parent (code_nodes f.nodes) traces t (slice_index_or ps t None) (slice_index_or qs t None) (x.parent t (omega (arith, many, lt))) (y.parent t (omega (arith, many, lt))))

pub all_once : (fs : List Flow) (cuts : List (List Trace)) (ps qs : List (List (Option ℕ))) → AreAllParents fs cuts ps → AreAllParents fs cuts qs → ps ≡ qs
all_once [] [] [] [] h k = refl
all_once [] [] [] (q ∷ qs) h k = absurd k
all_once [] [] (p ∷ ps) qs h k = absurd h
all_once [] (ts ∷ cuts) ps qs h k = absurd h
all_once (f ∷ fs) [] ps qs h k = absurd h
all_once (f ∷ fs) (ts ∷ cuts) [] qs h k = absurd h
all_once (f ∷ fs) (ts ∷ cuts) (p ∷ ps) [] h k = absurd k
all_once (f ∷ fs) (ts ∷ cuts) (p ∷ ps) (q ∷ qs) h k = ap₂ (λ x xs. x ∷ xs) (one_list f ts p q h.0 k.0) (all_once fs cuts ps qs h.1 k.1)
