use Rattle.std.proofs.Common.{◌∙◌, sym, subst, arith}
use Rattle.link_words.specs.Fields.{InReach}
use Rattle.link_layout.proofs.Placing.{err_so, errs_with, end_from-le}
use Rattle.link_layout.proofs.Numbered.{places_are, proc_end, checked}
use Rattle.link_layout.proofs.blocks.block_places.Goals as goal

pub returns-in_err-first-clause-limit : goal.returns-in_err-first-clause-limit
returns-in_err-first-clause-limit c =
    let a = c.args in
    err_so _ c.from_residual.result c.from_residual.ensures.0
    (λ fault limit ps p is. let e = proc_end ps p a.order.now a.widths.now a.first a.count is in let more = end_from-le a.first a.widths.now in omega (arith, e, more, c.in_err-first.ensures.limit))

pub returns-in_err-starts-clause-limit : goal.returns-in_err-starts-clause-limit
returns-in_err-starts-clause-limit c =
    let a = c.args in
    errs_with _ _ c.from_residual-in_err-starts.result c.from_residual-in_err-starts.ensures.1
    (λ fault same limit ps p is.
    let e = proc_end ps p a.order.now a.widths.now c.in_ok-first.first a.count (checked ps p _ _ a.first a.count c.in_ok-first.first c.in_ok-first.ensures.sum is) in
    let g = c.in_err-starts.ensures.limit (sym same ∙ limit) in omega (arith, e, g))

pub returns-clause-places : goal.returns-clause-places
returns-clause-places c ps p is =
    let a = c.args in
    let begun = c.as_slice.ensures.value ∙ c.in_ok-starts.ensures.starts in
    places_are ps p a.order.now a.widths.now c.as_slice.result.now c.in_ok-places.places.items c.in_ok-first.first a.count begun c.in_ok-places.ensures.numbers
    (checked ps p _ _ a.first a.count c.in_ok-first.first c.in_ok-first.ensures.sum is)

pub returns-clause-fits : goal.returns-clause-fits
returns-clause-fits c ps p is =
    let a = c.args in
    let e = proc_end ps p a.order.now a.widths.now c.in_ok-first.first a.count (checked ps p _ _ a.first a.count c.in_ok-first.first c.in_ok-first.ensures.sum is) in
    omega (arith, e, c.in_ok-starts.ensures.fits)

pub returns-clause-reach : goal.returns-clause-reach
returns-clause-reach c = c.in_ok-places.ensures.reach (subst InReach (sym c.as_slice.ensures.value) c.in_ok-starts.ensures.reach)
