use Rattle.std.proofs.Common.{arith}
use Rattle.link_layout.proofs.Placing.{entries_are, end_is, too_many, ok_more, err_more, err_so}
use Rattle.link_layout.proofs.starting.entries.Goals as goal

pub returns-in_err-start-clause-limit : goal.returns-in_err-start-clause-limit
returns-in_err-start-clause-limit c =
    err_so _ c.from_residual.result c.from_residual.ensures.0 (λ e same ps is. let n = too_many ps c.args.bodies c.args.widths.now is in omega (arith, n, c.in_err-start.ensures.limit))

pub returns-in_err-first-clause-limit : goal.returns-in_err-first-clause-limit
returns-in_err-first-clause-limit c =
    err_so _ c.from_residual-in_err-first.result c.from_residual-in_err-first.ensures.0 (λ e same ps is. let n = too_many ps c.args.bodies c.args.widths.now is in omega (arith, n, c.in_ok-start.ensures.sum, c.in_err-first.ensures.limit))

pub returns-clause-entries : goal.returns-clause-entries
returns-clause-entries c =
    ok_more _ _ c.starts.result (λ entries h ps is. entries_are ps c.args.bodies c.in_ok-first.first c.args.widths.now entries.items (omega (arith, c.in_ok-first.ensures.sum, c.in_ok-start.ensures.sum)) h is) c.starts.ensures.starts

pub returns-clause-fits : goal.returns-clause-fits
returns-clause-fits c =
    ok_more _ _ c.starts.result (λ entries h ps is. let e = end_is ps c.args.bodies c.in_ok-first.first c.args.widths.now (omega (arith, c.in_ok-first.ensures.sum, c.in_ok-start.ensures.sum)) is in omega (arith, e, h)) c.starts.ensures.fits

pub returns-clause-limit : goal.returns-clause-limit
returns-clause-limit c =
    err_more _ _ c.starts.result (λ fault h limit ps is. let e = end_is ps c.args.bodies c.in_ok-first.first c.args.widths.now (omega (arith, c.in_ok-first.ensures.sum, c.in_ok-start.ensures.sum)) is in let g = h limit in omega (arith, e, g)) c.starts.ensures.limit
