-- The traces of flows are told by one list of lines.
use Rattle.std.proofs.Common.{◌≡◌, ℕ, suc, ◌<◌, ◌⊎◌, List, [], ◌∷◌, ◌++◌, map, length, Bool, true, false, Option, Some, None, refl, sym, ap, ap₂, ◌∙◌, subst, arith, inl, inr}
use Rattle.std.specs.Prelude.{slice_index_or}
use Rattle.std.proofs.lemmas.List.{ext_get_or}
use Rattle.block_runs.specs.Blocks.{CodeBlock}
use Rattle.lir_core.specs.declared.flow.Flow.{Flow}
use Rattle.lir_core.specs.declared.flow.Trace.{Trace}
use Rattle.lir_core.specs.Flows.{code_nodes}
use Rattle.trace_build.specs.Cuts.{lists_of}
use Rattle.trace_build.specs.Traces.{traces_of}
use Rattle.trace_build.specs.Parents.{AreParents, IsParent, is_above}
use Rattle.source_image.specs.trace_report.Reports.{IsReport, IsFlowReport, lines_from}
use Rattle.source_image.specs.alloc_choice.declared.choice.Choice.{Choice}

abbrev trace_of : List ℕ → Trace
trace_of ns = record { nodes = ns }

listed_back : (ts : List Trace) → map trace_of (lists_of ts) ≡ ts
listed_back [] = refl
listed_back (t ∷ ts) = ap (λ us. t ∷ us) (listed_back ts)

traces_same : (ts us : List Trace) → lists_of ts ≡ lists_of us → ts ≡ us
traces_same ts us h = sym (listed_back ts) ∙ (ap (λ ns. map trace_of ns) h ∙ listed_back us)

apart : (b : Bool) → b ≡ true → b ≡ false → ⊥
apart b e f = cc

one_or_other : (p q : ℕ) → (p ≡ q) ⊎ ((p < q) ⊎ (q < p))
one_or_other p q = grind arith

-- a trace has one parent, or none
module _ (bls : List CodeBlock) (traces : List Trace) (t : ℕ) where
  one_number : (p q : ℕ) → IsParent bls traces t (Some p) → IsParent bls traces t (Some q) → (p ≡ q) ⊎ ((p < q) ⊎ (q < p)) → p ≡ q
  one_number p q x y (inl e) = e
  one_number p q x y (inr (inl l)) = absurd (apart (is_above bls traces p t) x.1 (y.2 p l))
  one_number p q x y (inr (inr l)) = absurd (apart (is_above bls traces q t) y.1 (x.2 q l))

  one_parent : (o q : Option ℕ) → IsParent bls traces t o → IsParent bls traces t q → o ≡ q
  one_parent None None x y = refl
  one_parent None (Some q) x y = absurd (apart (is_above bls traces q t) y.1 (x q y.0))
  one_parent (Some p) None x y = absurd (apart (is_above bls traces p t) x.1 (y p x.0))
  one_parent (Some p) (Some q) x y = ap Some (one_number p q x y (one_or_other p q))

one_list : (f : Flow) (traces : List Trace) (ps qs : List (Option ℕ)) → AreParents f traces ps → AreParents f traces qs → ps ≡ qs
one_list f traces ps qs x y =
    let many = x.each in
    ext_get_or None ps qs (x.each ∙ sym y.each) (λ t lt. one_parent (code_nodes f.nodes) traces t (slice_index_or ps t None) (slice_index_or qs t None) (x.parent t (omega (arith, many, lt))) (y.parent t (omega (arith, many, lt))))

module _ (a b : Choice) (policy : a.policy ≡ b.policy) (builder : a.builder ≡ b.builder) where
  flow_once : (procedure : ℕ) (f : Flow) (xs ys : List ℕ) → IsFlowReport a procedure f xs → IsFlowReport b procedure f ys → xs ≡ ys
  flow_once procedure f xs ys x y =
      let traces = traces_same x.traces y.traces (x.cut ∙ (ap (λ k. traces_of k f.nodes) builder ∙ sym y.cut)) in
      let parents = one_list f y.traces x.parents y.parents (subst (λ ts. AreParents f ts x.parents) traces x.above) y.above in
      x.lines
      ∙ (ap (λ k. lines_from k f.nodes procedure 0 x.parents x.traces) policy
      ∙ (ap₂ (λ (ps : List (Option ℕ)) (ts : List Trace). lines_from b.policy f.nodes procedure 0 ps ts) parents traces ∙ sym y.lines))

  pub report_once : (procedure : ℕ) (fs : List Flow) (xs ys : List ℕ) → IsReport a procedure fs xs → IsReport b procedure fs ys → xs ≡ ys
  report_once procedure [] xs ys x y = x ∙ sym y
  report_once procedure (f ∷ fs) xs ys x y =
      x.joined ∙ (ap₂ (λ us vs. us ++ vs) (flow_once procedure f x.front y.front x.front_is y.front_is) (report_once (suc procedure) fs x.rest y.rest x.rest_is y.rest_is) ∙ sym y.joined)
