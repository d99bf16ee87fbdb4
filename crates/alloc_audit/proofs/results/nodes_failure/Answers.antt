use Rattle.std.proofs.Common.{get_or, sym, ap, ◌∙◌}
use Rattle.lir_core.specs.Flows.{code_nodes}
use Rattle.lir_core.specs.Rows.{has_bit}
use Rattle.alloc_audit.specs.Nodes.{node_failure}
use Rattle.alloc_audit.specs.Parts.{grounds_for, room_for}
use Rattle.alloc_audit.proofs.Looping.{default_any}
use Rattle.alloc_audit.proofs.Verdicts.{node_fails, node_passes}
use Rattle.alloc_audit.proofs.results.nodes_failure.Goals as goal

pub returns-in-Some : goal.returns-in-Some
returns-in-Some c =
    let j = c.args.audited.now in
    let i = c.loop-at.at in
    let ns = c.args.numbers.now in
    let n = get_or ns i 0 in
    let s = c.index-starts-at.result in
    let l = c.index-lines-at.result in
    let g = c.index-regs-at.result in
    let e = c.index-ends-at.result in
    let room = room_for j.registers j.slots j.flow.now.values in
    let code = code_nodes j.flow.now.nodes in
    let live = has_bit j.live.now in
    let told = c.in_ok-failure.ensures ∙ ap (λ x. node_failure room code live n s x c.as_slice-in-loop-at.result.now e) c.as_slice.ensures ∙ ap (λ x. node_failure room code live n s l x e) c.as_slice-in-loop-at.ensures in
    node_fails (grounds_for j.registers j.slots j.flow.now j.live.now ns) ns c.args.starts.now c.args.lines.now c.args.regs.now c.args.ends.now i n s l g e c.loop-at-test.true c.requires.starts c.requires.lines c.requires.regs c.requires.ends
    (default_any ns i 0 n c.loop-at-test.true) c.index-starts-at.is c.index-lines-at.is c.index-regs-at.is c.index-ends-at.is c.in-Some.line _ (sym c.in-Some.is ∙ told) c.loop-at.invariant

pub loop-at-preserved : goal.loop-at-preserved
loop-at-preserved c =
    let j = c.args.audited.now in
    let i = c.loop-at.at in
    let ns = c.args.numbers.now in
    let n = get_or ns i 0 in
    let s = c.index-starts-at.result in
    let l = c.index-lines-at.result in
    let g = c.index-regs-at.result in
    let e = c.index-ends-at.result in
    let room = room_for j.registers j.slots j.flow.now.values in
    let code = code_nodes j.flow.now.nodes in
    let live = has_bit j.live.now in
    let told = c.in_ok-failure.ensures ∙ ap (λ x. node_failure room code live n s x c.as_slice-in-loop-at.result.now e) c.as_slice.ensures ∙ ap (λ x. node_failure room code live n s l x e) c.as_slice-in-loop-at.ensures in
    node_passes (grounds_for j.registers j.slots j.flow.now j.live.now ns) ns c.args.starts.now c.args.lines.now c.args.regs.now c.args.ends.now i n s l g e c.loop-at-test.true c.requires.starts c.requires.lines c.requires.regs c.requires.ends
    (default_any ns i 0 n c.loop-at-test.true) c.index-starts-at.is c.index-lines-at.is c.index-regs-at.is c.index-ends-at.is _ (sym c.in_default.is ∙ told) c.loop-at.invariant
