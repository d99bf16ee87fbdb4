use Rattle.std.proofs.Common.{◌≡◌, sym, ap, subst, ◌∙◌}
use Rattle.block_runs.specs.Blocks.{block_at}
use Rattle.lir_core.specs.Flows.{code_node, code_nodes}
use Rattle.std.proofs.lemmas.Bool.{ltb-true}
use Rattle.lir_core.specs.Rows.{has_bit}
use Rattle.alloc_audit.specs.Parts.{block_failure, room_for}
use Rattle.alloc_audit.proofs.Verdicts.{block_is}
use Rattle.alloc_audit.proofs.results.failure_at.Goals as goal

pub returns : goal.returns
returns c =
    let j = c.args.audited.now in
    let e = subst (λ ns. block_at (code_nodes ns) c.args.number ≡ code_node c.in-Some.node.now) c.as_slice.ensures (block_is c.as_slice.result.now c.args.number c.in-Some.node.now (ltb-true _ _ (sym (c.in-Some.ensures.lookup).0)) (c.in-Some.ensures.lookup).1) in
    c.in_ok-failure.ensures ∙ ap (λ bl. block_failure (room_for j.registers j.slots j.flow.now.values) bl (has_bit j.live.now) c.args.number c.args.part.now.start.now c.args.part.now.lines.now c.args.part.now.named.now c.args.part.now.end.now) (sym e)
