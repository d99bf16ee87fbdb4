use Rattle.std.proofs.Common.{arith}
use Rattle.link_layout.proofs.Placing.{err_so, over, end_from-le}
use Rattle.link_layout.proofs.blocks.end_of.Goals as goal

pub returns-in_err-at-clause-limit : goal.returns-in_err-at-clause-limit
returns-in_err-at-clause-limit c =
    err_so _ c.from_residual.result c.from_residual.ensures.0 (λ fault. let more = end_from-le c.args.first c.args.widths.now in omega (arith, more, c.in_err-at.ensures.limit))

pub returns-in_err-at-2-clause-limit : goal.returns-in_err-at-2-clause-limit
returns-in_err-at-2-clause-limit c =
    err_so _ c.from_residual-in_err-at-2.result c.from_residual-in_err-at-2.ensures.0
    (λ fault. over c.args.first c.loop-width.at c.args.widths.now c.loop-width.width-index c.loop-width-test.true c.loop-width.invariant.ends c.in_err-at-2.ensures.limit)
