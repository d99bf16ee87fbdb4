use Rattle.std.proofs.Common.{◌++◌, length, refl, ap, ◌∙◌}
use Rattle.std.specs.Prelude.{option_to_list}
use Rattle.check_bodies.proofs.Setting.{fits_there, set_aside}
use Rattle.check_bodies.proofs.putting_off.set_aside.Goals as goal

pub returns-clause-waits : goal.returns-clause-waits
returns-clause-waits c = λ j m opened.
    set_aside c.args.round.now c.args.opened c.args.state.now c.leave.new.state
    (record { tree = c.args.tree; number = c.args.opened.number; heading = c.args.opened.heading; locals = c.in_ok-locals.locals; names = c.in-Some.names; procedures = c.in_ok-procedures.procedures })
    c.requires.settled c.requires.closable c.leave.ensures.types c.leave.ensures.strings
    (c.leave.ensures.names ∙ ap (λ o. c.leave.new.state.levels.items ++ option_to_list o) c.in-Some.is)
    (c.are_alike.ensures c.if-not-are_alike.false) refl (c.in_ok-procedures.ensures.number ∙ ap (λ z. length z) c.deref.ensures.value) refl c.in_ok-locals.ensures.numbers c.leave.ensures.makes j m opened

pub returns-clause-fits : goal.returns-clause-fits
returns-clause-fits c =
    fits_there c.args.round.now c.args.opened c.args.state.now c.leave.new.state
    (record { tree = c.args.tree; number = c.args.opened.number; heading = c.args.opened.heading; locals = c.in_ok-locals.locals; names = c.in-Some.names; procedures = c.in_ok-procedures.procedures })
    c.requires.settled c.requires.closable c.leave.ensures.types c.leave.ensures.strings
    (c.leave.ensures.names ∙ ap (λ o. c.leave.new.state.levels.items ++ option_to_list o) c.in-Some.is)
    (c.are_alike.ensures c.if-not-are_alike.false) refl (c.in_ok-procedures.ensures.number ∙ ap (λ z. length z) c.deref.ensures.value) refl c.in_ok-locals.ensures.numbers c.leave.ensures.makes
