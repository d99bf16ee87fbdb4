use Rattle.std.proofs.Common.{◌≡◌, ◌<◌, ◌∙◌, ap, subst, map, length, get_or, Some, refl}
use Rattle.std.specs.Prelude.{slice_get}
use Rattle.std.proofs.lemmas.Option.{slice_get_read}
use Rattle.trace_needs.specs.Needs.{at_operation}
use Rattle.trace_needs.specs.Tables.{needed, passed_all}
use Rattle.trace_needs.proofs.Joining.{node_passed}
use Rattle.trace_needs.proofs.needing.pass_node.Goals as goal

pub returns : goal.returns
returns c =
    let n = c.in-Some.node.now in
    let w = c.in-Some.ensures.lookup in
    let nodes = c.args.flow.now.nodes in
    let is : slice_get nodes c.args.number ≡ Some n = slice_get_read nodes (length nodes) c.args.number n refl (subst (λ xs. c.args.number < length xs) c.as_slice.ensures w.3.0) (w.1 ∙ ap (λ xs. get_or xs c.args.number n) c.as_slice.ensures) in
    node_passed needed c.args.flow.now c.args.live.now c.args.next (slice_get nodes c.args.number) n c.args.table.now c.step.new.self c.pass_operations.new.table c.pass_end.new.table is c.in_ok-step.ensures (c.in_ok-pass_operations.ensures ∙ ap (λ xs. passed_all needed (map at_operation xs) c.step.new.self) c.as_slice-2.ensures) c.in_ok-pass_end.ensures
