use Rattle.std.proofs.Common.{sym, subst}
use Rattle.ob_judge.specs.Parameters.{declare_parameter}
use Rattle.check_types.specs.steps.Answers.{Answers}
use Rattle.check_types.specs.TypeMeaning.{type_shape}
use Rattle.check_making.specs.Making.{table_of}
use Rattle.check_making.specs.Parts.{Made}
use Rattle.check_making.proofs.parameters.parameters.declare_parameter.Goals as goal

pub returns-then-kind-clause-judged : goal.returns-then-kind-clause-judged
returns-then-kind-clause-judged c = λ m makes.
    subst (λ b. Answers (Made c.args.round.now c.know_parameter.new.state) (declare_parameter c.args.round.now.source.now b c.args.i c.args.kind.variable (type_shape (table_of c.args.state.now) c.args.kind.of) c.args.number m) c.know_parameter.result)
    (sym c.if-kind.true) (c.know_parameter.ensures.judged m makes)
