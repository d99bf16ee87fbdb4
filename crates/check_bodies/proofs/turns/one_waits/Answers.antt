use Rattle.std.proofs.Common.{[], ◌∷◌, ◌++◌, sym, ap, subst}
use Rattle.ob_syntax.specs.declared.declarations.Procedure.{Procedure as ProcedureTree}
use Rattle.judged_modules.specs.steps.Procedures.{plain_procedure}
use Rattle.check_bodies.specs.Settled.{AllFit}
use Rattle.check_bodies.specs.Walked.{Walked}
use Rattle.check_bodies.proofs.Later.{all_fit_later, fit_last}
use Rattle.check_bodies.proofs.Walking.{first_walked, between_walked, one_waits}
use Rattle.check_bodies.proofs.turns.one_waits.Goals as goal

pub returns-clause-fit : goal.returns-clause-fit
returns-clause-fit c =
    let e = c.in_ok-body.ensures in
    subst (AllFit c.put_off.new.state) (sym c.in_ok-push.ensures.items)
    (fit_last c.put_off.new.state c.args.bodies.now.items c.in_ok-body.body
    (all_fit_later c.args.state.now c.put_off.new.state c.requires.between.settled.built e.settled.built e.later.grows e.more c.args.bodies.now.items c.requires.fit) e.fits)

pub returns-clause-walked : goal.returns-clause-walked
returns-clause-walked c = λ k first qs walked.
    let e = c.in_ok-body.ensures in
    subst (λ bs. Walked c.args.round.now k first (qs ++ plain_procedure c.args.tree.now ∷ []) c.put_off.new.state bs) (sym c.in_ok-push.ensures.items)
    (subst (λ (x : ProcedureTree). Walked c.args.round.now k first (qs ++ plain_procedure x ∷ []) c.put_off.new.state (c.args.bodies.now.items ++ c.in_ok-body.body ∷ [])) (ap (λ z. z.now) e.tree)
    (one_waits c.args.round.now k first qs c.args.state.now c.put_off.new.state c.args.bodies.now.items c.requires.between.settled.built e.settled.built e.later.grows c.in_ok-body.body (λ m represents up. e.waits k m represents up) walked))

pub returns-clause-between : goal.returns-clause-between
returns-clause-between c =
    let e = c.in_ok-body.ensures in
    let b = c.requires.between in
    between_walked c.args.round.now b.so_far b.making (plain_procedure c.in_ok-body.body.tree.now ∷ []) c.put_off.new.state (c.in_ok-body.body ∷ []) e.settled
    (one_waits c.args.round.now b.so_far b.making [] c.args.state.now c.put_off.new.state [] b.settled.built e.settled.built e.later.grows c.in_ok-body.body (λ m represents up. e.waits b.so_far m represents up)
    (first_walked c.args.round.now b.so_far c.args.state.now b.making b.names b.represents b.between))

pub returns-clause-legal : goal.returns-clause-legal
returns-clause-legal c = λ k m represents up. c.in_ok-body.ensures.legal k m represents up
