use Rattle.std.proofs.Common.{◌∙◌, ◌+◌, sym, ap, refl, drop, get_or}
use Rattle.trace_needs.specs.Needs.{positions_of}
use Rattle.trace_needs.specs.Tables.{needed, passed_all}
use Rattle.trace_needs.proofs.Joining.{pass_step}
use Rattle.trace_needs.proofs.needing.pass_needs.Goals as goal

pub loop-i-preserved : goal.loop-i-preserved
loop-i-preserved c =
    let i = c.loop-i.i in
    let nodes = c.args.nodes.now in
    ap (passed_all needed (positions_of c.args.flow.now c.args.live.now (drop (i + 1) nodes))) c.in_ok-pass_node.ensures
    ∙ sym (pass_step needed c.args.flow.now c.args.live.now nodes i (get_or nodes i 0) c.number_at.result c.loop-i.table c.loop-i-test.true refl c.number_at.ensures)
    ∙ c.loop-i.invariant
