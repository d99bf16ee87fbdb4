use Rattle.std.proofs.Common.{List, ◌++◌, map, sym, subst, ap, ◌∙◌, ℕ, length}
use Rattle.std.proofs.lemmas.Result.{on_ok_weaker}
use Rattle.run_laws.specs.Layers.{places_from}
use Rattle.lir_core.specs.declared.places.Places.{Places}
use Rattle.lir_core.specs.Spots.{IsRising}
use Rattle.parallel_move.specs.declared.step.Step.{Step}
use Rattle.boundary_resolve.specs.declared.code_line.CodeLine.TheVariants.{Edge}
use Rattle.boundary_resolve.specs.Moves.{FewRegs, entry_places}
use Rattle.boundary_resolve.proofs.Laid.{same_edge, entry_few}
use Rattle.boundary_resolve.proofs.code.Code.push_entry.Goals as goal

pub returns : goal.returns
returns c traces finds nowhere rows =
    let start = c.start.ensures traces finds nowhere rows in
    let first = rows.starts 0 in
    let before = c.in_ok-before.ensures.0 ∙ ap (λ (x : List ℕ). entry_places (length x)) c.params-params.ensures in
    let args = c.as_slice.ensures.value ∙ c.in_ok-before.ensures.1 ∙ ap (λ (x : List ℕ). places_from 0 (length x)) c.params-params.ensures in
    on_ok_weaker c.push_edge.result
    (λ h. h ∙ ap (λ (x : List Step). c.args.placed.now.items ++ map Edge x) (same_edge _ _ _ _ _ _ _ _ before start c.params-params.ensures args))
    (c.push_edge.ensures (subst FewRegs (sym before) (entry_few _ rows.entry)) (subst FewRegs (sym start) first.0) (subst (λ (q : Places). IsRising q.homed) (sym start) first.1))
