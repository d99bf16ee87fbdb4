-- One flow more.
use Rattle.std.proofs.Common.{◌≡◌, ◌<◌, ◌+◌, ℕ, List, [], ◌∷◌, ◌++◌, length, drop, get_or, refl, sym, ap, ◌∙◌, subst, arith}
use Rattle.std.proofs.lemmas.List.{drop_more, length-map}
use Rattle.lir_core.specs.declared.flow.Flow.{Flow}
use Rattle.alloc_choice.specs.declared.choice.Choice.{Choice}
use Rattle.lir_core.specs.declared.flow.Trace.{Trace}
use Rattle.trace_build.specs.declared.builder.Builder.{Builder}
use Rattle.trace_build.specs.Traces.{traces_of, traces_in}
use Rattle.trace_build.specs.Cuts.{lists_of}
use Rattle.trace_report.specs.Reports.{IsFlowReport, IsReport}

-- the report of the flows from place i on, where that of those behind it is known
pub report_next : (choice : Choice) (flows : List Flow) (i : ℕ) (d : Flow) (lines rest : List ℕ) → i < length flows → IsFlowReport choice i (get_or flows i d) lines
    → IsReport choice (i + 1) (drop (i + 1) flows) rest → IsReport choice i (drop i flows) (lines ++ rest)
report_next choice flows i d lines rest l one more =
    subst (λ fs. IsReport choice i fs (lines ++ rest)) (sym (drop_more flows i d l)) (record { front = lines; rest = rest; joined = refl; front_is = one; rest_is = subst (λ n. IsReport choice n (drop (i + 1) flows) rest) (omega arith) more })

---- How many there are

pub cut_length : (builder : Builder) (flow : Flow) (ts : List Trace) → lists_of ts ≡ traces_of builder flow.nodes → length ts ≡ length (traces_of builder flow.nodes)
cut_length builder flow ts e = sym (length-map ts (λ (t : Trace). t.nodes)) ∙ ap (λ (xs : List (List ℕ)). length xs) e

pub count_next : (builder : Builder) (flows : List Flow) (i : ℕ) (d : Flow) (so_far more : ℕ) → i < length flows → get_or flows i d ≡ d → more ≡ length (traces_of builder d.nodes)
    → so_far + traces_in builder (drop i flows) ≡ traces_in builder flows → (so_far + more) + traces_in builder (drop (i + 1) flows) ≡ traces_in builder flows
count_next builder flows i d so_far more l same is before =
    let cut : traces_in builder (drop i flows) ≡ length (traces_of builder (get_or flows i d).nodes) + traces_in builder (drop (i + 1) flows) = ap (traces_in builder) (drop_more flows i d l) in
    let head : length (traces_of builder (get_or flows i d).nodes) ≡ length (traces_of builder d.nodes) = ap (λ (f : Flow). length (traces_of builder f.nodes)) same in
    omega (arith, cut, head, is, before)
