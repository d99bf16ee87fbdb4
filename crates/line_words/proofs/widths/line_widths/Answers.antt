use Rattle.std.proofs.Common.{sym, ◌∙◌, arith}
use Rattle.placed_code.proofs.Parts.{length_map}
use Rattle.link_blocks.specs.Plans.{block_in, placed_in}
use Rattle.link_layout.proofs.Placing.{errs_with}
use Rattle.procedure_code.proofs.Measures.{over_block}
use Rattle.line_words.proofs.widths.line_widths.Goals as goal

pub returns-in_err-push_block_at-clause-limit : goal.returns-in_err-push_block_at-clause-limit
returns-in_err-push_block_at-clause-limit c =
    let p = c.args.plan.now in
    errs_with _ _ c.from_residual-in_err-push_block_at.result c.from_residual-in_err-push_block_at.ensures.1
    (λ e same limit.
    let over = over_block (placed_in p) _ c.as_slice-number-items.result.now p.order c.loop-i.i c.first_in.result (sym (length_map block_in p.blocks)) c.as_slice-number-items.ensures c.loop-i-test.true c.first_in.ensures
    (c.in_err-push_block_at.ensures.limit (sym same ∙ limit)) in
    omega (arith, over))
