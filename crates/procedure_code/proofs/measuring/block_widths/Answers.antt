use Rattle.std.proofs.Common.{sym}
use Rattle.placed_code.proofs.Parts.{length_map}
use Rattle.link_blocks.specs.Plans.{block_in, placed_in}
use Rattle.procedure_code.proofs.Measures.{over_block}
use Rattle.procedure_code.proofs.measuring.block_widths.Goals as goal
use Rattle.link_layout.proofs.Placing.{err_so}

pub returns-in_err-width-clause-limit : goal.returns-in_err-width-clause-limit
returns-in_err-width-clause-limit c =
    let p = c.args.plan.now in
    err_so _ c.from_residual-in_err-width.result c.from_residual-in_err-width.ensures.0
    (λ e limit. over_block (placed_in p) _ c.as_slice-number-items.result.now p.order c.loop-i.i c.first_in.result (sym (length_map block_in p.blocks)) c.as_slice-number-items.ensures c.loop-i-test.true c.first_in.ensures c.in_err-width.ensures.limit)
