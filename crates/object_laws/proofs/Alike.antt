-- Results of flows that are alike.
use Rattle.std.proofs.Common.{◌≡◌, ℕ, ◌+◌, List, [], ◌∷◌, map, length, refl, sym, ap, ap₂, subst, ◌∙◌}
use Rattle.lir_core.specs.declared.flow.Flow.{Flow}
use Rattle.lir_core.specs.declared.flow.Trace.{Trace}
use Rattle.lir_core.specs.declared.places.TraceOut.{TraceOut}
use Rattle.trace_build.specs.Traces.{traces_of}
use Rattle.linked_flows.specs.Allocations.{Cut}
use Rattle.module_object.specs.words.alloc_choice.declared.choice.Choice.{Choice}
use Rattle.module_object.specs.words.alloc_choice.Results.{case_with, results_to}
use Rattle.module_object.specs.words.flow_allocation.Allocations.{IsAllocation, AllAllocations}
use Rattle.moved_data.specs.Alike.{AreAlike}
use Rattle.moved_data.proofs.Alike.{one_cut, one_live, one_result}
use Rattle.moved_flows.specs.Flows.{AllAlike}
use Rattle.module_object.proofs.planned_image.Own.{traces_same}
use Rattle.module_object.proofs.words.text_laws.one_image.Bits.{same_bits}
use Rattle.module_object.proofs.words.text_laws.one_image.Results.{results_same}

abbrev pub flows : List Cut → List Flow
flows cs = map (λ c. c.flow) cs

-- the results of each flow
abbrev pub results : List Cut → List (List TraceOut)
results cs = map (λ c. c.outs) cs

module _ (a b : Choice) (policy : a.policy ≡ b.policy) (builder : a.builder ≡ b.builder) (regs : a.regs ≡ b.regs) where
  -- the same traces with the same results
  record AreSame (c d : Cut) : Type 0 where
    pub traces : c.traces ≡ d.traces
    pub outs : c.outs ≡ d.outs

  cut_alike : (first : ℕ) (c d : Cut) → AreAlike c.flow d.flow → IsAllocation a first c → IsAllocation b first d → AreSame c d
  cut_alike first c d alike x y =
      let made : traces_of a.builder c.flow.nodes ≡ traces_of b.builder d.flow.nodes = one_cut a.builder c.flow d.flow alike ∙ ap (λ u. traces_of u d.flow.nodes) builder in
      let traces = traces_same c.traces d.traces (x.traces ∙ (made ∙ sym y.traces)) in
      let bits = same_bits d.flow x.rows y.rows (one_live c.flow d.flow x.rows alike x.live) y.live in
      let moved = one_result a.policy c.flow d.flow x.rows a.regs first c.traces (length c.traces) alike in
      let by_bits = results_same x.rows y.rows bits d.flow a.regs a.policy first c.traces (length c.traces) in
      let renamed : results_to a.policy (case_with d.flow y.rows a.regs) first c.traces (length c.traces) ≡ results_to b.policy (case_with d.flow y.rows b.regs) first d.traces (length d.traces) =
      λ k. results_to (policy k) (case_with d.flow y.rows (regs k)) first (traces k) (length (traces k)) in
      record { traces = traces; outs = x.results ∙ (moved ∙ (by_bits ∙ (renamed ∙ sym y.results))) }

  pub cuts_alike : (first : ℕ) (cs ds : List Cut) → AllAlike (flows cs) (flows ds) → AllAllocations a first cs → AllAllocations b first ds → results cs ≡ results ds
  cuts_alike first [] [] h x y = refl
  cuts_alike first [] (d ∷ ds) h x y = absurd h
  cuts_alike first (c ∷ cs) [] h x y = absurd h
  cuts_alike first (c ∷ cs) (d ∷ ds) h x y =
      let here = cut_alike first c d h.0 x.0 y.0 in
      let rest : AllAllocations a (first + length d.traces) cs = subst (λ (ts : List Trace). AllAllocations a (first + length ts) cs) here.traces x.1 in
      ap₂ (λ os more. os ∷ more) here.outs (cuts_alike (first + length d.traces) cs ds h.1 rest y.1)
