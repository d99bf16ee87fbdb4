use Rattle.std.proofs.Common.{◌≡◌, ◌<◌, Some, ap, refl, subst, sym, ◌∙◌, add-one, length, get_or}
use Rattle.std.specs.Prelude.{slice_get}
use Rattle.std.proofs.lemmas.Option.{slice_get_read}
use Rattle.global_live.specs.Search.{marks_of, Fills}
use Rattle.global_live.proofs.Filled.{fills_one}
use Rattle.global_live.proofs.liveness.follow_nodes.Goals as goal

pub loop-number-preserved : goal.loop-number-preserved
loop-number-preserved c =
    let i = c.loop-number.number in
    let nodes = c.args.flow.now.nodes in
    let at : slice_get nodes i ≡ Some c.node-item.result = slice_get_read nodes (length nodes) i c.node-item.result refl (subst (λ xs. i < length xs) c.as_slice-node-items.ensures c.loop-number-test.true) (c.node-item.is ∙ ap (λ xs. get_or xs i c.node-item.result) c.as_slice-node-items.ensures) in
    subst (λ k. Fills c.args.flow.now c.args.makers.now k (marks_of c.args.search.now) (marks_of c.follow_end.new.self)) (sym (add-one i))
    (fills_one c.args.flow.now c.args.makers.now i c.node-item.result c.as_slice.result.now (marks_of c.args.search.now) (marks_of c.loop-number.search) (marks_of c.follow_operations.new.self) (marks_of c.follow_end.new.self) at c.as_slice.ensures c.loop-number.invariant c.in_ok-follow_operations.ensures c.in_ok-follow_end.ensures)
