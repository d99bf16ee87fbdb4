use Rattle.std.proofs.Common.{◌≡◌, sym, ap, ◌∙◌, length, arith, true}
use Rattle.std.specs.Prelude.{◌==◌}
use Rattle.std.proofs.lemmas.Bool.{eq-eqb}
use Rattle.lir_core.specs.Walks.{begin}
use Rattle.alloc_audit.specs.Nodes.{starts_well, lines_failure}
use Rattle.lir_core.specs.Flows.{code_node}
use Rattle.lir_core.specs.Rows.{has_bit}
use Rattle.alloc_audit.specs.Parts.{room_for}
use Rattle.alloc_audit.proofs.Placing.{counted, not_started, started}
use Rattle.alloc_audit.proofs.node.node_failure.Goals as goal

pub returns-then-not-branch : goal.returns-then-not-branch
returns-then-not-branch c = not_started _ _ _ _ (sym (c.in_ok-starts_well.ensures c.args.at.now.slots) ∙ c.if-not-branch.true)

pub lines_failure-requires : goal.lines_failure-requires
lines_failure-requires c =
    let e = counted (room_for c.args.at.now.registers c.args.at.now.slots c.args.at.now.values) (has_bit c.args.at.now.live.now) (code_node c.args.at.now.node.now) c.args.at.now.number c.args.part.now.start.now (sym (c.in_ok-starts_well.ensures c.args.at.now.slots) ∙ c.if-not-branch.false) in
    omega (arith, e, c.requires)

pub returns : goal.returns
returns c =
    let room = room_for c.args.at.now.registers c.args.at.now.slots c.args.at.now.values in
    let live = has_bit c.args.at.now.live.now in
    let bl = code_node c.args.at.now.node.now in
    let t = sym (c.in_ok-starts_well.ensures c.args.at.now.slots) ∙ c.if-not-branch.false in
    let e = counted room live bl c.args.at.now.number c.args.part.now.start.now t in
    let a : (length c.args.part.now.end.now.regs == c.args.at.now.registers) ≡ true = eq-eqb _ _ (omega (arith, c.len.ensures, c.if-len-at.false)) in
    c.in_ok-failure.ensures ∙ ap (λ k. lines_failure (room_for k c.args.at.now.slots c.args.at.now.values) live bl c.args.part.now.lines.now c.args.part.now.end.now (begin c.args.part.now.start.now c.args.part.now.named.now)) e
    ∙ started (length c.args.part.now.end.now.regs == c.args.at.now.registers) (starts_well room live bl c.args.at.now.number c.args.part.now.start.now) _ _ a t
