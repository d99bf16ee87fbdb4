use Rattle.std.proofs.Common.{sym, ◌∙◌, length}
use Rattle.lir_core.specs.Flows.{code_node}
use Rattle.lir_core.specs.Rows.{has_bit}
use Rattle.alloc_audit.specs.Holdings.{room_in}
use Rattle.alloc_audit.specs.Nodes.{keeps_all}
use Rattle.alloc_audit.specs.Parts.{is_done, is_right}
use Rattle.alloc_audit.proofs.Placing.{ends_is, second_false, both_true}
use Rattle.alloc_audit.proofs.node.ends_well.Goals as goal

pub returns-then-not-is_right : goal.returns-then-not-is_right
returns-then-not-is_right c =
    let node = c.args.at.now.node.now in
    let w = c.args.walk.now in
    let end = c.args.end.now in
    let live = has_bit c.args.at.now.live.now in
    sym (ends_is c.args.at.now.values live node end c.args.named.now w ∙ second_false (is_done node c.args.named.now w) (is_right end w) (keeps_all (room_in c.args.at.now.values w) live (code_node node) end) (sym c.is_right.ensures ∙ c.if-not-is_right.true))

pub returns : goal.returns
returns c =
    let node = c.args.at.now.node.now in
    let w = c.args.walk.now in
    let end = c.args.end.now in
    let live = has_bit c.args.at.now.live.now in
    c.in_ok-all.ensures (length w.regs.items) (length w.slots.items)
    ∙ sym (ends_is c.args.at.now.values live node end c.args.named.now w ∙ both_true (is_done node c.args.named.now w) (is_right end w) (keeps_all (room_in c.args.at.now.values w) live (code_node node) end) (sym c.is_done.ensures ∙ c.if-not-is_done.false) (sym c.is_right.ensures ∙ c.if-not-is_right.false))
