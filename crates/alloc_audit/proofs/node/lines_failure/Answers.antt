use Rattle.std.proofs.Common.{sym, ap, ◌∙◌, length, arith, true, false, map}
use Rattle.lir_core.specs.Flows.{code_node, operation_of}
use Rattle.lir_core.specs.Rows.{has_bit}
use Rattle.alloc_audit.specs.Holdings.{room_in, walker_of}
use Rattle.alloc_audit.specs.Tests.{first_unfit}
use Rattle.lir_core.specs.Walks.{walk}
use Rattle.alloc_audit.specs.Parts.{room_for}
use Rattle.alloc_audit.proofs.Placing.{line_fails, end_tells}
use Rattle.alloc_audit.proofs.node.lines_failure.Goals as goal

pub walk_lines-requires-clause-some : goal.walk_lines-requires-clause-some
walk_lines-requires-clause-some c = let e = ap (λ r. r.regs) (c.in_ok-walk.ensures.room 0) in omega (arith, e, c.requires)

pub returns-in-Some : goal.returns-in-Some
returns-in-Some c =
    let room = room_for (length c.args.part.now.start.now.regs) c.args.at.now.slots c.args.at.now.values in
    line_fails c.args.at.now.values room (has_bit c.args.at.now.live.now) (code_node c.args.at.now.node.now) c.args.part.now.lines.now c.args.part.now.end.now c.args.part.now.named.now c.args.part.now.start.now c.in_ok-walk.walk (c.in_ok-walk.ensures.room c.args.at.now.values) (c.in_ok-walk.ensures.walker c.args.part.now.named.now)
    c.in-Some.line (sym c.in-Some.is ∙ c.in_ok-line.ensures.first ∙ ap (λ xs. first_unfit (room_in c.args.at.now.values c.in_ok-walk.walk) (map operation_of xs) 1 c.args.part.now.lines.now (walker_of c.args.part.now.named.now c.in_ok-walk.walk)) c.as_slice-lirs.ensures)

pub returns-then-not-branch : goal.returns-then-not-branch
returns-then-not-branch c =
    let room = room_for (length c.args.part.now.start.now.regs) c.args.at.now.slots c.args.at.now.values in
    end_tells c.args.at.now.values room (has_bit c.args.at.now.live.now) (code_node c.args.at.now.node.now) c.args.part.now.lines.now c.args.part.now.end.now c.args.part.now.named.now c.args.part.now.start.now c.in_ok-walk.walk (c.in_ok-walk.ensures.room c.args.at.now.values) (c.in_ok-walk.ensures.walker c.args.part.now.named.now)
    false c.walk_lines.new.state (sym c.in_default.is ∙ c.in_ok-line.ensures.first ∙ ap (λ xs. first_unfit (room_in c.args.at.now.values c.in_ok-walk.walk) (map operation_of xs) 1 c.args.part.now.lines.now (walker_of c.args.part.now.named.now c.in_ok-walk.walk)) c.as_slice-lirs.ensures) (c.in_ok-line.ensures.walked c.in_default.is ∙ ap (λ xs. walk (map operation_of xs) c.args.part.now.lines.now (walker_of c.args.part.now.named.now c.in_ok-walk.walk)) c.as_slice-lirs.ensures) (c.in_ok-line.ensures.room c.in_default.is) (sym c.if-not-branch.true ∙ c.in_ok-ends_well.ensures)

pub returns : goal.returns
returns c =
    let room = room_for (length c.args.part.now.start.now.regs) c.args.at.now.slots c.args.at.now.values in
    end_tells c.args.at.now.values room (has_bit c.args.at.now.live.now) (code_node c.args.at.now.node.now) c.args.part.now.lines.now c.args.part.now.end.now c.args.part.now.named.now c.args.part.now.start.now c.in_ok-walk.walk (c.in_ok-walk.ensures.room c.args.at.now.values) (c.in_ok-walk.ensures.walker c.args.part.now.named.now)
    true c.walk_lines.new.state (sym c.in_default.is ∙ c.in_ok-line.ensures.first ∙ ap (λ xs. first_unfit (room_in c.args.at.now.values c.in_ok-walk.walk) (map operation_of xs) 1 c.args.part.now.lines.now (walker_of c.args.part.now.named.now c.in_ok-walk.walk)) c.as_slice-lirs.ensures) (c.in_ok-line.ensures.walked c.in_default.is ∙ ap (λ xs. walk (map operation_of xs) c.args.part.now.lines.now (walker_of c.args.part.now.named.now c.in_ok-walk.walk)) c.as_slice-lirs.ensures) (c.in_ok-line.ensures.room c.in_default.is) (sym c.if-not-branch.false ∙ c.in_ok-ends_well.ensures)
