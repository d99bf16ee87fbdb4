use Rattle.std.proofs.Common.{arith}
use Rattle.boundary_resolve.specs.Placing.{node_lines, placed_of}
use Rattle.boundary_resolve.proofs.Laid.{rows_of_sound, all_placed}
use Rattle.boundary_resolve.proofs.resolving.resolve.Goals as goal

pub returns : goal.returns
returns c k sound =
    let f = c.args.flow.now in
    let traces = c.args.traces.now in
    let outs = c.args.outs.now in
    all_placed (node_lines f traces outs) traces c.loop-trace.trace-index c.loop-trace.placed.items (placed_of f traces outs) (c.loop-trace.invariant (rows_of_sound k f traces outs sound)) (omega arith)
