use Rattle.std.proofs.Common.{refl, ap}
use Rattle.ob_judge.specs.Parameters.{result_shape}
use Rattle.check_types.proofs.steps.Answering.{exit, stop, as_judged}
use Rattle.check_types.specs.declared.types.TypeRef.TheVariants as TheType
use Rattle.check_making.proofs.parameters.sections.result_type.Goals as goal

pub returns-in-None : goal.returns-in-None
returns-in-None c = λ m makes.
    as_judged (ap (λ o. result_shape c.args.round.now.source.now o m.world) c.in-None.is)
    (record { by = record { shape_is = refl; numbered = (5, ((c.requires.built).index).says TheType.Nothing 5 refl) } })

pub returns-in_err-of-in-Some : goal.returns-in_err-of-in-Some
returns-in_err-of-in-Some c = λ m makes.
    exit _ c.from_residual.ensures.1 (as_judged (ap (λ o. result_shape c.args.round.now.source.now o m.world) c.in-Some.is) (stop _ _ (c.in_err-of-in-Some.ensures m makes)))
