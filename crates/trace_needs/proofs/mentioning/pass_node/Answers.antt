use Rattle.std.proofs.Common.{◌≡◌, ◌<◌, ◌∙◌, ap, subst, map, length, get_or, Some, refl}
use Rattle.std.specs.Prelude.{slice_get}
use Rattle.std.proofs.lemmas.Option.{slice_get_read}
use Rattle.trace_needs.specs.Needs.{at_operation}
use Rattle.trace_needs.specs.Tables.{mentioned, passed_all}
use Rattle.trace_needs.proofs.Joining.{node_passed}
use Rattle.trace_needs.proofs.mentioning.pass_node.Goals as goal

pub returns : goal.returns
returns c rows next =
    let f = c.args.flow.now in
    let n = c.in-Some.node.now in
    let w = c.in-Some.ensures.lookup in
    let is : slice_get f.nodes c.args.number ≡ Some n = slice_get_read f.nodes (length f.nodes) c.args.number n refl (subst (λ xs. c.args.number < length xs) c.as_slice.ensures w.3.0) (w.1 ∙ ap (λ xs. get_or xs c.args.number n) c.as_slice.ensures) in
    node_passed mentioned f rows next (slice_get f.nodes c.args.number) n c.args.table.now c.pass_start.new.table c.pass_operations.new.table c.pass_end.new.table is c.in_ok-pass_start.ensures (c.in_ok-pass_operations.ensures ∙ ap (λ xs. passed_all mentioned (map at_operation xs) c.pass_start.new.table) c.as_slice-2.ensures) (c.in_ok-pass_end.ensures f.values rows next)
