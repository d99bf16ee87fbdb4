-- The traces of cuts are those that the builder makes of their flows.
use Rattle.std.proofs.Common.{◌≡◌, ℕ, ◌+◌, List, [], ◌∷◌, map, length, refl, sym, ap, ap₂, ◌∙◌}
use Rattle.std.proofs.lemmas.List.{length-map}
use Rattle.lir_core.specs.declared.flow.Flow.{Flow}
use Rattle.lir_core.specs.declared.flow.Trace.{Trace}
use Rattle.trace_build.specs.Traces.{traces_of, traces_in}
use Rattle.linked_flows.specs.Allocations.{Cut}
use Rattle.alloc_choice.specs.declared.choice.Choice.{Choice}
use Rattle.flow_allocation.specs.Allocations.{AllAllocations, trace_count}

pub counted : (choice : Choice) (first : ℕ) (cuts : List Cut) (flows : List Flow) → map (λ c. c.flow) cuts ≡ flows → AllAllocations choice first cuts → trace_count cuts ≡ traces_in choice.builder flows
counted choice first [] [] e each = refl
counted choice first [] (f ∷ flows) e each = cc
counted choice first (c ∷ cuts) [] e each = absurd (let z : c.flow ∷ map (λ x. x.flow) cuts ≡ [] = e in cc)
counted choice first (c ∷ cuts) (f ∷ flows) e each =
    let flow : c.flow ≡ f = cc in
    let rest : map (λ (x : Cut). x.flow) cuts ≡ flows = cc in
    ap₂ (λ m n. m + n)
    (sym (length-map c.traces (λ (t : Trace). t.nodes)) ∙ ap (λ (ts : List (List ℕ)). length ts) each.0.traces ∙ ap (λ (x : Flow). length (traces_of choice.builder x.nodes)) flow)
    (counted choice (first + length c.traces) cuts flows rest each.1)
