use Rattle.ob_judge.specs.Parameters.{next_names}
use Rattle.check_types.proofs.steps.Answering.{exit, goes_on, stop, as_judged}
use Rattle.check_types.specs.TypeMeaning.{type_shape}
use Rattle.check_making.specs.Making.{table_of}
use Rattle.check_making.proofs.parameters.OneMore.{parameters_law, item_as}
use Rattle.check_making.proofs.parameters.parameters.add_parameters.Goals as goal

pub returns-in_err-with_first-clause-judged : goal.returns-in_err-with_first-clause-judged
returns-in_err-with_first-clause-judged c = λ x h m makes.
    let shape = type_shape (table_of c.args.state.now) c.args.kind.of in
    exit _ c.from_residual.ensures.1
    (as_judged (parameters_law c.args.round.now.source.now c.args.kind.known_here c.args.kind.variable shape c.args.first x m (next_names c.args.more.now)) (stop _ _ (c.in_err-with_first.ensures.judged x h m makes)))

pub returns-clause-judged : goal.returns-clause-judged
returns-clause-judged c = λ x h m makes.
    let p = c.args.round.now.source.now in
    let shape = type_shape (table_of c.args.state.now) c.args.kind.of in
    as_judged (parameters_law p c.args.kind.known_here c.args.kind.variable shape c.args.first x m (next_names c.args.more.now))
    (goes_on _ _ (c.in_ok-with_first.ensures.judged x h m makes) (λ a gave.
    item_as p c.args.kind.known_here c.args.kind.variable shape c.add_parameter.new.state c.args.state.now c.args.kind.of c.in_ok-with_first.ensures.types a (next_names c.args.more.now) (c.add_more.ensures.judged a.0 gave.value a.1 gave.makes)))
