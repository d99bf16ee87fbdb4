use Rattle.std.proofs.Common.{List, [], ◌++◌, map, sym, subst, ap, ◌∙◌, refl}
use Rattle.std.proofs.lemmas.Result.{on_ok_weaker}
use Rattle.lir_core.specs.declared.places.Places.{Places}
use Rattle.lir_core.specs.Spots.{IsRising}
use Rattle.parallel_move.specs.declared.step.Step.{Step}
use Rattle.boundary_resolve.specs.declared.code_line.CodeLine.TheVariants.{Edge}
use Rattle.boundary_resolve.specs.Moves.{FewRegs}
use Rattle.boundary_resolve.proofs.Laid.{same_edge, test_is}
use Rattle.boundary_resolve.proofs.code.Code.push_test.Goals as goal

pub returns-in-Some : goal.returns-in-Some
returns-in-Some c traces finds nowhere rows =
    let f = c.args.self.now.flow.now in
    let outs = c.args.self.now.outs.now in
    let p = c.in-Some.pred.now in
    let start = c.start.ensures traces finds nowhere rows in
    let end = c.end.ensures traces finds nowhere rows in
    let here = rows.starts c.args.node in
    on_ok_weaker c.push_edge.result
    (λ h. h ∙ ap (λ (x : List Step). c.args.placed.now.items ++ map Edge x) (same_edge _ _ _ _ [] [] [] [] end start refl refl ∙ sym (test_is f traces outs c.args.node p c.preds.result.now c.preds.ensures c.in-Some.ensures.value (sym c.if-is_test.ensures))))
    (c.push_edge.ensures (subst FewRegs (sym end) (rows.ends p)) (subst FewRegs (sym start) here.0) (subst (λ (q : Places). IsRising q.homed) (sym start) here.1))
