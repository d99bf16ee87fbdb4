use Rattle.std.proofs.Common.{true, refl, ap}
use Rattle.ob_judge.specs.Scopes.{World}
use Rattle.check_types.proofs.steps.Answering.{exit}
use Rattle.check_types.specs.TypeMeaning.{type_shape}
use Rattle.check_types.specs.names.Meaning.{object_of}
use Rattle.check_types.specs.declared.names.scope.Named.TheVariants as TheNamed
use Rattle.check_making.specs.Making.{table_of, strings_of}
use Rattle.check_making.proofs.parameters.Updates.{settled_changed}
use Rattle.check_making.proofs.parameters.Stages.{stands_made, open_made}
use Rattle.check_making.proofs.parameters.Leaving.{declared_stays}
use Rattle.check_making.proofs.parameters.Knowing.{parameter_known, parameter_unknown}
use Rattle.check_making.proofs.parameters.parameters.know_parameter.Goals as goal

pub returns-in_err-declare-clause-judged : goal.returns-in_err-declare-clause-judged
returns-in_err-declare-clause-judged c = λ m makes.
    let r = c.args.round.now in
    let s = c.args.state.now in
    exit _ c.from_residual-in_err-declare.ensures.1
    (parameter_unknown r s c.declare.new.self m makes c.args.i c.args.number c.args.kind.variable (type_shape (table_of s) c.args.kind.of) (object_of (table_of s) (strings_of s) (TheNamed.Variable c.parameter_variable-variable.result)) (c.in_err-declare.ensures.judged m makes))

pub returns-clause-judged : goal.returns-clause-judged
returns-clause-judged c = λ m makes.
    let r = c.args.round.now in
    let s = c.args.state.now in
    parameter_known r s c.declare.new.self m makes c.args.i c.args.number c.args.kind.variable (type_shape (table_of s) c.args.kind.of) (object_of (table_of s) (strings_of s) (TheNamed.Variable c.parameter_variable-variable.result))
    (c.requires.inside refl)
    (c.parameter_variable-variable.ensures.judged (table_of s) (strings_of s) m.world (ap (λ (w : World). w.module_number) makes.world) (ap (λ (w : World). w.procedure) makes.world))
    c.in_ok-values.values (c.in_ok-values.ensures.number (table_of s)) (c.in_ok-declare.ensures.judged m makes)

pub returns-clause-stands : goal.returns-clause-stands
returns-clause-stands c =
    let r = c.args.round.now in
    let u = c.declare.new.self in
    stands_made c.requires.stands (settled_changed r u u.standing u.forward u.is_type_part c.in_ok-values.values c.in_ok-declare.ensures.settled) (returns-clause-judged c)

pub returns-clause-procedure : goal.returns-clause-procedure
returns-clause-procedure c =
    open_made c.requires.stands (returns-clause-judged c)
    (declared_stays c.args.round.now.source.now true c.args.i c.args.kind.variable (type_shape (table_of c.args.state.now) c.args.kind.of) c.args.number c.requires.stands.making)
