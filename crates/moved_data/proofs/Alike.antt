-- Alike flows.
use Rattle.std.proofs.Common.{◌≡◌, ℕ, List, sym, ap, subst, ◌∙◌}
use Rattle.lir_core.specs.declared.flow.Flow.{Flow}
use Rattle.lir_core.specs.declared.flow.Trace.{Trace}
use Rattle.global_live.specs.Reading.{HasLive}
use Rattle.trace_build.specs.declared.builder.Builder.{Builder}
use Rattle.trace_build.specs.Traces.{traces_of}
use Rattle.alloc_choice.specs.declared.choice.Policy.{Policy}
use Rattle.alloc_choice.specs.Results.{case_with, results_to}
use Rattle.moved_data.specs.Alike.{AreAlike}
use Rattle.moved_data.proofs.Living.{has_live_on, has_live_back}
use Rattle.moved_data.proofs.Cuts.{cut_same}
use Rattle.moved_data.proofs.Results.{results_same}

pub one_cut : (builder : Builder) (f g : Flow) → AreAlike f g → traces_of builder f.nodes ≡ traces_of builder g.nodes
one_cut builder f g h = sym (cut_same f.nodes builder) ∙ (ap (λ (x : Flow). traces_of builder x.nodes) h.same ∙ cut_same g.nodes builder)

pub one_live : (f g : Flow) (rows : List (List ℕ)) → AreAlike f g → HasLive f rows → HasLive g rows
one_live f g rows h live = has_live_back g rows (subst (λ x. HasLive x rows) h.same (has_live_on f rows live))

pub one_result : (p : Policy) (f g : Flow) (rows : List (List ℕ)) (regs first : ℕ) (traces : List Trace) (n : ℕ) → AreAlike f g
    → results_to p (case_with f rows regs) first traces n ≡ results_to p (case_with g rows regs) first traces n
one_result p f g rows regs first traces n h =
    sym (results_same f rows regs p first traces n) ∙ (ap (λ x. results_to p (case_with x rows regs) first traces n) h.same ∙ results_same g rows regs p first traces n)
