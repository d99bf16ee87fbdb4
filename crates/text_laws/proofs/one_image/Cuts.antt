-- Cuts of the same flows, by choices that differ in the number of workers alone, are the same.
use Rattle.std.proofs.Common.{◌≡◌, ℕ, ◌+◌, List, [], ◌∷◌, map, length, refl, sym, ap, subst, ◌∙◌}
use Rattle.image_form.specs.declared.image.Image.{Image}
use Rattle.ob_types.specs.declared.program.Program.{Program}
use Rattle.lir_core.specs.declared.flow.Flow.{Flow}
use Rattle.lir_core.specs.declared.flow.Trace.{Trace}
use Rattle.global_live.specs.Reading.{HasLive}
use Rattle.trace_build.specs.Traces.{traces_of}
use Rattle.trace_build.specs.Cuts.{lists_of}
use Rattle.source_image.specs.alloc_choice.declared.choice.Choice.{Choice}
use Rattle.source_image.specs.alloc_choice.Results.{case_with, results_to}
use Rattle.linked_flows.specs.Allocations.{Cut}
use Rattle.source_image.specs.link_plan.Linked.{linked}
use Rattle.source_image.specs.flow_allocation.Allocations.{IsAllocation, AllAllocations}
use Rattle.source_image.specs.compiled_runs.Compiled.{data_of}
use Rattle.source_image.specs.program_image.Images.{IsProgramImage}
use Rattle.text_laws.proofs.one_image.Bits.{same_bits}
use Rattle.text_laws.proofs.one_image.Results.{results_same}

abbrev trace_of : List ℕ → Trace
trace_of ns = record { nodes = ns }

listed_back : (ts : List Trace) → map trace_of (lists_of ts) ≡ ts
listed_back [] = refl
listed_back (t ∷ ts) = ap (λ us. t ∷ us) (listed_back ts)

-- traces with the same nodes
traces_same : (ts us : List Trace) → lists_of ts ≡ lists_of us → ts ≡ us
traces_same ts us h = sym (listed_back ts) ∙ (ap (λ ns. map trace_of ns) h ∙ listed_back us)

abbrev first_or : Flow → List Flow → Flow
first_or f [] = f
first_or f (x ∷ xs) = x

abbrev behind_first : List Flow → List Flow
behind_first [] = []
behind_first (x ∷ xs) = xs

abbrev flows : List Cut → List Flow
flows cs = map (λ c. c.flow) cs

module _ (a b : Choice) (policy : a.policy ≡ b.policy) (builder : a.builder ≡ b.builder) (regs : a.regs ≡ b.regs) where
  pub cut_same : (first : ℕ) (c d : Cut) → c.flow ≡ d.flow → IsAllocation a first c → IsAllocation b first d → c ≡ d
  cut_same first c d flow x y =
      let made : traces_of a.builder c.flow.nodes ≡ traces_of b.builder d.flow.nodes = λ k. traces_of (builder k) (flow k).nodes in
      let traces = traces_same c.traces d.traces (x.traces ∙ (made ∙ sym y.traces)) in
      let live : HasLive c.flow y.rows = subst (λ f. HasLive f y.rows) (sym flow) y.live in
      let bits = same_bits c.flow x.rows y.rows x.live live in
      let by_bits = results_same x.rows y.rows bits c.flow a.regs a.policy first c.traces (length c.traces) in
      let moved : results_to a.policy (case_with c.flow y.rows a.regs) first c.traces (length c.traces) ≡ results_to b.policy (case_with d.flow y.rows b.regs) first d.traces (length d.traces) = λ k. results_to (policy k) (case_with (flow k) y.rows (regs k)) first (traces k) (length (traces k)) in
      let outs : c.outs ≡ d.outs = x.results ∙ (by_bits ∙ (moved ∙ sym y.results)) in
      λ k. record { flow = flow k; traces = traces k; outs = outs k }

  pub cuts_same : (first : ℕ) (cs ds : List Cut) → flows cs ≡ flows ds → AllAllocations a first cs → AllAllocations b first ds → cs ≡ ds
  cuts_same first [] [] h x y = refl
  cuts_same first [] (d ∷ ds) h x y = absurd (let z = h in cc)
  cuts_same first (c ∷ cs) [] h x y = absurd (let z = h in cc)
  cuts_same first (c ∷ cs) (d ∷ ds) h x y =
      let here = cut_same first c d (ap (λ fs. first_or c.flow fs) h) x.0 y.0 in
      let rest : AllAllocations a (first + length d.traces) cs = subst (λ (e : Cut). AllAllocations a (first + length e.traces) cs) here x.1 in
      ap (λ e. e ∷ cs) here ∙ ap (λ es. d ∷ es) (cuts_same (first + length d.traces) cs ds (ap (λ fs. behind_first fs) h) rest y.1)

  module _ (p : Program) (cs ds : List Cut) (i j : Image) (x : IsProgramImage a p cs i) (y : IsProgramImage b p ds j) where
    pub one_list : cs ≡ ds
    one_list = cuts_same 0 cs ds (x.are.flows ∙ sym y.are.flows) x.are.each y.are.each

    pub one_image : i ≡ j
    one_image = x.is ∙ (ap (λ c. linked c (data_of p)) one_list ∙ sym y.is)
