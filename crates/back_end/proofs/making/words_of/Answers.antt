use Rattle.std.proofs.Common.{sym, ap, ◌∙◌}
use Rattle.link_blocks.specs.Fits.{numbers_fit}
use Rattle.back_end.proofs.making.words_of.Goals as goal

pub returns-in-Ok : goal.returns-in-Ok
returns-in-Ok c k c' few all is = (c.in-Ok.ensures.piece k c' few all is, ap (λ f. numbers_fit f) (sym is.flow_is) ∙ c.in-Ok.ensures.fits)

pub returns-in-Err-Misfit : goal.returns-in-Err-Misfit
returns-in-Err-Misfit c k c' few all is fits = c.in-Err-Misfit.ensures.misfit c.in-Err-Misfit.field-0-is k c' is fits

pub returns-in-Err-Limit : goal.returns-in-Err-Limit
returns-in-Err-Limit c k c' few all is = c.in-Err-Limit.ensures.limit c.in-Err-Limit.field-0-is k c' few all is
