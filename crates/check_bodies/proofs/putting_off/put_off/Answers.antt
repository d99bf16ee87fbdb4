use Rattle.std.proofs.Common.{subst, sym, ap, arith}
use Rattle.check_making.proofs.Growing.{grows_on}
use Rattle.check_making.specs.scopes.Building.{IsLater}
use Rattle.check_making.specs.Making.{IsSettled}
use Rattle.legal_tables.specs.Promised.{HasLegalTypes}
use Rattle.check_procedures.proofs.Opens.{still_closable}
use Rattle.check_procedures.proofs.Scoped.{legal_inside}
use Rattle.check_bodies.proofs.PuttingOff.{is_put_off}
use Rattle.check_bodies.proofs.putting_off.put_off.Goals as goal

pub set_aside-requires-clause-settled : goal.set_aside-requires-clause-settled
set_aside-requires-clause-settled c = subst (λ z. IsSettled z c.declarations.new.state.declaring) c.scope_of-scope.ensures.deeper c.in_ok-declarations.ensures.settled

pub set_aside-requires-clause-closable : goal.set_aside-requires-clause-closable
set_aside-requires-clause-closable c =
    still_closable c.args.round.now c.open_procedure.new.state c.declarations.new.state c.in_ok-opened.opened c.in_ok-opened.ensures.settled.built c.in_ok-declarations.ensures.settled.built c.in_ok-declarations.ensures.later.grows
    c.in_ok-declarations.ensures.more c.in_ok-opened.ensures.closable

pub returns-clause-later : goal.returns-clause-later
returns-clause-later c = subst (λ z. IsLater c.args.state.now.declaring.types.table z.table) (sym c.in_ok-body.ensures.types) (record {
  grows = grows_on c.args.state.now.declaring.types.table c.open_procedure.new.state.declaring.types.table c.declarations.new.state.declaring.types.table c.in_ok-opened.ensures.later.grows c.in_ok-declarations.ensures.later.grows;
  few = c.in_ok-declarations.ensures.later.few;
})

pub returns-clause-more : goal.returns-clause-more
returns-clause-more c = let x = c.in_ok-opened.ensures.more in let y = c.in_ok-declarations.ensures.more in let z = c.in_ok-body.ensures.more in omega (arith, x, y, z)

pub returns-clause-waits : goal.returns-clause-waits
returns-clause-waits c =
    is_put_off c.args.round.now c.args.tree.now c.scope_of-scope.result c.in_ok-opened.opened c.scope_of-scope.ensures.deeper c.args.state.now c.open_procedure.new.state c.in_ok-opened.ensures.judged c.declarations.new.state c.set_aside.new.state
    c.in_ok-opened.ensures.closable c.in_ok-opened.ensures.settled.built c.in_ok-declarations.ensures.settled.built c.in_ok-declarations.ensures.later.grows c.in_ok-declarations.ensures.judged
    c.in_ok-body.body (ap (λ z. z.now) c.in_ok-body.ensures.tree) c.in_ok-body.ensures.waits

pub returns-clause-legal : goal.returns-clause-legal
returns-clause-legal c = λ k m represents up legal.
    subst (λ z. HasLegalTypes z.table) (sym c.in_ok-body.ensures.types)
    (legal_inside c.args.round.now c.args.tree.now c.scope_of-scope.result c.in_ok-opened.opened c.scope_of-scope.ensures.deeper c.args.state.now c.open_procedure.new.state c.in_ok-opened.ensures.judged c.declarations.new.state c.in_ok-declarations.ensures.legal k m represents up
    (c.in_ok-opened.ensures.legal k m represents up legal))
