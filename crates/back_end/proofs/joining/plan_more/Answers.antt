use Rattle.std.proofs.Common.{refl}
use Rattle.flow_allocation.specs.Allocations.{items_of}
use Rattle.back_end.proofs.Planning.{added, refused, too_long}
use Rattle.back_end.proofs.joining.plan_more.Goals as goal

pub returns-in-Ok-clause-more : goal.returns-in-Ok-clause-more
returns-in-Ok-clause-more g c valid =
    let made = c.in_ok-parts.field-0 in
    let h = c.in_ok-parts.ensures.allocated valid in
    added c.args.choice.now c.requires.choice c.args.flows.now (items_of made.parts) (items_of made.outs) c.args.planned.now _ made.traces h c.in_ok-parts.ensures.few refl c.if-planned.true refl refl c.in-Ok.ensures.pieces c.in-Ok.ensures.fits

pub returns-in-Err-Misfit-clause-more : goal.returns-in-Err-Misfit-clause-more
returns-in-Err-Misfit-clause-more g c valid =
    let made = c.in_ok-parts.field-0 in
    let h = c.in_ok-parts.ensures.allocated valid in
    refused c.args.choice.now c.requires.choice c.args.flows.now (items_of made.parts) (items_of made.outs) c.args.planned.now _ made.traces h c.in_ok-parts.ensures.few refl refl refl (c.in-Err-Misfit.ensures.misfit c.in-Err-Misfit.field-0-is)

pub returns-in-Err-Limit-clause-more : goal.returns-in-Err-Limit-clause-more
returns-in-Err-Limit-clause-more g c valid =
    let made = c.in_ok-parts.field-0 in
    let h = c.in_ok-parts.ensures.allocated valid in
    too_long c.args.choice.now c.requires.choice c.args.flows.now (items_of made.parts) (items_of made.outs) c.args.planned.now _ made.traces h c.in_ok-parts.ensures.few refl refl refl (c.in-Err-Limit.ensures.limit c.in-Err-Limit.field-0-is)
