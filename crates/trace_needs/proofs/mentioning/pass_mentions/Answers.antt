use Rattle.std.proofs.Common.{◌∙◌, ◌+◌, sym, ap, refl, drop, get_or}
use Rattle.std.specs.Prelude.{slice_get}
use Rattle.trace_needs.specs.Needs.{positions_of}
use Rattle.trace_needs.specs.Tables.{mentioned, passed_all}
use Rattle.trace_needs.proofs.Joining.{pass_step}
use Rattle.trace_needs.proofs.mentioning.pass_mentions.Goals as goal

pub loop-number-preserved : goal.loop-number-preserved
loop-number-preserved c rows =
    let i = c.loop-number.number-index in
    let nodes = c.args.nodes.now in
    ap (passed_all mentioned (positions_of c.args.flow.now rows (drop (i + 1) nodes))) (c.in_ok-pass_node.ensures rows (slice_get nodes (i + 1)))
    ∙ sym (pass_step mentioned c.args.flow.now rows nodes i (get_or nodes i 0) (slice_get nodes (i + 1)) c.loop-number.table c.loop-number-test.true refl refl)
    ∙ c.loop-number.invariant rows
