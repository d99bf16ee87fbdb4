-- A choice's own results for a program.
use Rattle.std.proofs.Common.{◌≡◌, ℕ, ◌+◌, ◌≤◌, Bool, List, [], ◌∷◌, ◌++◌, map, length, take, drop, refl, sym, ap, ap₂, ◌∙◌, subst}
use Rattle.image_form.specs.declared.image.Image.{Image}
use Rattle.ob_types.specs.declared.program.Program.{Program}
use Rattle.ssa_lowered.specs.Lowered.{lowered}
use Rattle.lir_core.specs.declared.flow.Flow.{Flow}
use Rattle.lir_core.specs.declared.flow.Trace.{Trace}
use Rattle.trace_build.specs.Cuts.{lists_of}
use Rattle.linked_flows.specs.Allocations.{Cut}
use Rattle.image_words.specs.link_plan.Linked.{linked}
use Rattle.image_words.specs.alloc_choice.declared.choice.Choice.{Choice}
use Rattle.alloc_audit.specs.declared.verdict.Verdict.TheVariants.{Sound}
use Rattle.alloc_audit.specs.Verdicts.{verdict_of}
use Rattle.alloc_audit.specs.Results.{AreLive}
use Rattle.placed_image.specs.audited_allocations.Joined.{joined}
use Rattle.placed_image.proofs.audited_allocations.Passing.{cuts_pass}
use Rattle.image_words.specs.flow_allocation.Allocations.{AllAllocations, trace_count}
use Rattle.image_words.specs.back_end.Images.{AreCutsOf}
use Rattle.image_words.specs.compiled_runs.Compiled.{flows_of, data_of}
use Rattle.image_words.specs.program_image.Images.{IsProgramImage}
use Rattle.image_words.specs.program_image.Limits.{most_traces}
use Rattle.placed_image.specs.Cutting.{AreCutBy}
use Rattle.placed_image.specs.Shares.{cuts_of}
use Rattle.placed_image.proofs.Results.{shares_are}
use Rattle.planned_image.specs.Plans.{IsProgramPlan}
use Rattle.planned_image.specs.Audits.{IsImageOfResults, verdict_on}
use Rattle.planned_image.specs.declared.planning.ProgramPlan.{ProgramPlan}

---- Traces

abbrev trace_of : List ℕ → Trace
trace_of ns = record { nodes = ns }

listed_back : (ts : List Trace) → map trace_of (lists_of ts) ≡ ts
listed_back [] = refl
listed_back (t ∷ ts) = ap (λ us. t ∷ us) (listed_back ts)

-- traces with the same nodes
pub traces_same : (ts us : List Trace) → lists_of ts ≡ lists_of us → ts ≡ us
traces_same ts us h = sym (listed_back ts) ∙ (ap (map trace_of) h ∙ listed_back us)

-- the traces that a builder gives to flows are those behind a choice's results
pub cut_same : (choice : Choice) (first : ℕ) (cuts : List Cut) (lists : List (List Trace)) → AllAllocations choice first cuts → AreCutBy choice.builder (map (λ c. c.flow) cuts) lists → lists ≡ map (λ c. c.traces) cuts
cut_same choice first [] [] h cut = refl
cut_same choice first [] (ts ∷ lists) h cut = absurd cut
cut_same choice first (c ∷ cuts) [] h cut = absurd cut
cut_same choice first (c ∷ cuts) (ts ∷ lists) h cut = ap₂ (λ us rest. us ∷ rest) (traces_same ts c.traces (cut.0.traces ∙ sym h.0.traces)) (cut_same choice (first + length c.traces) cuts lists h.1 cut.1)

-- each flow's own of all results are those that it has
pub cuts_back : (choice : Choice) (first : ℕ) (cuts : List Cut) → AllAllocations choice first cuts → cuts_of (map (λ c. c.flow) cuts) (map (λ c. c.traces) cuts) (joined (map (λ c. c.outs) cuts)) ≡ cuts
cuts_back choice first [] h = refl
cuts_back choice first (c ∷ cuts) h =
    let rest = joined (map (λ (d : Cut). d.outs) cuts) in
    let s = shares_are c.traces (c.outs ++ rest) c.outs rest refl h.0.sound.each in
    ap₂ (λ own left. record { flow = c.flow; traces = c.traces; outs = own } ∷ cuts_of (map (λ (d : Cut). d.flow) cuts) (map (λ (d : Cut). d.traces) cuts) left) s.0 s.1
    ∙ ap (λ ds. c ∷ ds) (cuts_back choice (first + length c.traces) cuts h.1)

---- The verdict and the image

module _ (choice : Choice) (p : Program) (cuts : List Cut) (are : AreCutsOf choice (lowered p) cuts) where
  pub own_pass : (plan : ProgramPlan) (lives : List (ℕ → ℕ → Bool)) → IsProgramPlan choice.builder p plan → AreLive plan.flows.items lives → verdict_on choice.regs plan lives (joined (map (λ c. c.outs) cuts)) ≡ Sound
  own_pass plan lives is live =
      let outs = joined (map (λ (c : Cut). c.outs) cuts) in
      let flows : plan.flows.items ≡ map (λ c. c.flow) cuts = is.flows ∙ sym are.flows in
      let lists : map (λ v. v.items) plan.cuts.items ≡ map (λ c. c.traces) cuts = cut_same choice 0 cuts (map (λ v. v.items) plan.cuts.items) are.each (subst (λ fs. AreCutBy choice.builder fs (map (λ v. v.items) plan.cuts.items)) flows is.cut) in
      ap₂ (λ fs ts. verdict_of choice.regs fs lives ts outs) flows lists
      ∙ cuts_pass choice cuts lives are.each (subst (λ fs. AreLive fs lives) flows live)

  pub own_image : trace_count cuts ≤ most_traces → (image : Image) → IsImageOfResults choice.builder choice.regs p (joined (map (λ c. c.outs) cuts)) image → IsProgramImage choice p cuts image
  own_image few image h =
      let outs = joined (map (λ (c : Cut). c.outs) cuts) in
      let lists : h.cuts ≡ map (λ c. c.traces) cuts = cut_same choice 0 cuts h.cuts are.each (subst (λ fs. AreCutBy choice.builder fs h.cuts) (sym are.flows) h.cut) in
      let same : cuts_of (flows_of p) h.cuts outs ≡ cuts = ap₂ (λ fs ts. cuts_of fs ts outs) (sym are.flows) lists ∙ cuts_back choice 0 cuts are.each in
      record { are = are; few = few; is = h.is ∙ ap (λ cs. linked cs (data_of p)) same }
