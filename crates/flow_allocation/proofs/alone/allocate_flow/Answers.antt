use Rattle.std.proofs.Common.{◌≡◌, [], ◌∷◌, arith}
use Rattle.trace_build.specs.Traces.{traces_in}
use Rattle.flow_allocation.proofs.Further.{allocated_alone, lines_are}
use Rattle.flow_allocation.proofs.alone.allocate_flow.Goals as goal

pub returns-clause-allocated : goal.returns-clause-allocated
returns-clause-allocated c valid =
    let choice = c.args.choice.now in
    let p = c.in_ok-plan.plan in
    let is = c.in_ok-plan.ensures in
    let planned = is.plan valid in
    let outs = c.in_ok-outs.outs.items in
    let lines = c.in_ok-lines.lines.items in
    let made = lines_are p outs lines c.as_slice.result.now c.as_slice-2.result.now c.as_slice.ensures c.as_slice-2.ensures.value c.in_ok-lines.ensures in
    let count : c.len-count.result ≡ traces_in choice.builder (c.args.flow.now ∷ []) = omega (arith, c.len-count.ensures, is.count) in
    allocated_alone choice c.requires.fit p outs lines c.args.flow.now c.len-count.result planned is.number is.flow (c.in_ok-outs.ensures.finals planned) made count
