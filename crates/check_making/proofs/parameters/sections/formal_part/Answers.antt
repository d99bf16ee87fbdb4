use Rattle.std.proofs.Common.{refl, ap}
use Rattle.ob_syntax.specs.Plain.{plain_option, plain_formals}
use Rattle.ob_judge.specs.Parameters.{formal_part, result_shape}
use Rattle.check_types.specs.declared.types.TypeRef.TheVariants as TheType
use Rattle.check_types.proofs.steps.Answering.{exit, goes_on, stop, as_judged}
use Rattle.check_making.proofs.parameters.Answering.{look_on, look_stops}
use Rattle.check_making.proofs.parameters.sections.formal_part.Goals as goal

pub returns-in-None-clause-judged : goal.returns-in-None-clause-judged
returns-in-None-clause-judged c = λ m makes.
    as_judged (ap (λ o. formal_part c.args.round.now.source.now c.args.known_here (plain_option plain_formals o) m) c.in-None.is)
    (record {
      by = record {
        value = record { listed = c.no_parameters.ensures c.args.state.now.types.table; result_is = refl; numbered = (5, ((c.requires.stands.settled.built).index).says TheType.Nothing 5 refl) };
        makes = makes;
      };
    })

pub returns-in_err-listed-in-Some-clause-judged : goal.returns-in_err-listed-in-Some-clause-judged
returns-in_err-listed-in-Some-clause-judged c = λ m makes.
    exit _ c.from_residual.ensures.1
    (as_judged (ap (λ o. formal_part c.args.round.now.source.now c.args.known_here (plain_option plain_formals o) m) c.in-Some.is)
    (stop _ _ (c.in_err-listed-in-Some.ensures.judged m makes)))

pub returns-in_err-outcome-in-Some-clause-judged : goal.returns-in_err-outcome-in-Some-clause-judged
returns-in_err-outcome-in-Some-clause-judged c = λ m makes.
    exit _ c.from_residual-in_err-outcome-in-Some.ensures.1
    (as_judged (ap (λ o. formal_part c.args.round.now.source.now c.args.known_here (plain_option plain_formals o) m) c.in-Some.is)
    (goes_on _ _ (c.in_ok-listed-in-Some.ensures.judged m makes) (λ a gave.
    look_stops (result_shape c.args.round.now.source.now c.in-Some.tree.result (a.1).world) a.1 _ (c.in_err-outcome-in-Some.ensures a.1 gave.makes))))

pub returns-in_ok-outcome-in-Some-clause-judged : goal.returns-in_ok-outcome-in-Some-clause-judged
returns-in_ok-outcome-in-Some-clause-judged c = λ m makes.
    as_judged (ap (λ o. formal_part c.args.round.now.source.now c.args.known_here (plain_option plain_formals o) m) c.in-Some.is)
    (goes_on _ _ (c.in_ok-listed-in-Some.ensures.judged m makes) (λ a gave.
    look_on (result_shape c.args.round.now.source.now c.in-Some.tree.result (a.1).world) a.1 _ (c.in_ok-outcome-in-Some.ensures a.1 gave.makes) (λ shape is. record {
      by = record { value = record { listed = gave.value; result_is = is.shape_is; numbered = is.numbered }; makes = gave.makes };
    })))
