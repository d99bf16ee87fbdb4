use Rattle.std.proofs.Common.{◌≡◌, List, ◌++◌, filter, map, ap, ◌∙◌, refl}
use Rattle.std.proofs.lemmas.Result.{on_ok_weaker}
use Rattle.lir_core.specs.declared.places.Move.{Move}
use Rattle.lir_core.specs.Spots.{argument_of}
use Rattle.parallel_move.specs.declared.step.Step.{Step}
use Rattle.parallel_move.specs.Order.{is_moving}
use Rattle.boundary_resolve.specs.declared.code_line.CodeLine.TheVariants.{Edge}
use Rattle.boundary_resolve.specs.Moves.{edge_moves}
use Rattle.boundary_resolve.proofs.Laid.{edge_ordered}
use Rattle.boundary_resolve.proofs.code.push_edge.Goals as goal

pub returns : goal.returns
returns c few_from few_to rising =
    let from = c.args.from.now in
    let to = c.args.to.now in
    let params = c.args.params.now in
    let args = c.args.args.now in
    let pushed = c.in_ok-push_near.ensures few_from few_to (c.if-not-is_near.ensures refl) in
    let moves : c.push_near.new.moves.items ≡ filter is_moving (edge_moves from to (argument_of params args)) = pushed ∙ ap (λ (x : List Move). x ++ filter is_moving (edge_moves from to (argument_of params args))) c.clear.ensures.items in
    let all = edge_ordered from to params args c.as_slice.result.now rising (c.as_slice.ensures.value ∙ moves) in
    on_ok_weaker c.push_ordered.result
    (λ h. h ∙ ap (λ (x : List Step). c.args.placed.now.items ++ map Edge x) all.1)
    (c.push_ordered.ensures all.0)
