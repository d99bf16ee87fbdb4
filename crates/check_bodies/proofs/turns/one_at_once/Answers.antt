use Rattle.std.proofs.Common.{[], ◌∷◌}
use Rattle.judged_modules.specs.steps.Procedures.{plain_procedure}
use Rattle.check_bodies.proofs.Later.{all_fit_later}
use Rattle.check_bodies.proofs.Walking.{first_walked, between_walked, one_at_once}
use Rattle.check_bodies.proofs.turns.one_at_once.Goals as goal

pub returns-clause-fit : goal.returns-clause-fit
returns-clause-fit c =
    let e = c.in_ok-procedure.ensures in
    all_fit_later c.args.state.now c.procedure.new.state c.requires.between.settled.built e.settled.built e.later.grows e.more c.args._bodies.now c.requires.fit

pub returns-clause-walked : goal.returns-clause-walked
returns-clause-walked c = λ k first qs walked.
    let e = c.in_ok-procedure.ensures in
    one_at_once c.args.round.now k first qs c.args.state.now c.procedure.new.state c.args._bodies.now c.requires.between.settled.built e.settled.built e.later.grows (plain_procedure c.args.tree.now) (λ m represents up. e.judged k m represents up) walked

pub returns-clause-between : goal.returns-clause-between
returns-clause-between c =
    let e = c.in_ok-procedure.ensures in
    let b = c.requires.between in
    between_walked c.args.round.now b.so_far b.making (plain_procedure c.args.tree.now ∷ []) c.procedure.new.state [] e.settled
    (one_at_once c.args.round.now b.so_far b.making [] c.args.state.now c.procedure.new.state [] b.settled.built e.settled.built e.later.grows (plain_procedure c.args.tree.now) (λ m represents up. e.judged b.so_far m represents up)
    (first_walked c.args.round.now b.so_far c.args.state.now b.making b.names b.represents b.between))
