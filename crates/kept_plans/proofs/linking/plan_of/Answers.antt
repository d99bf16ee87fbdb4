use Rattle.kept_plans.proofs.linking.plan_of.Goals as goal

pub returns-in-Err-Misfit-clause-misfit : goal.returns-in-Err-Misfit-clause-misfit
returns-in-Err-Misfit-clause-misfit c refused k c' is fits = c.in-Err-Misfit.ensures.misfit c.in-Err-Misfit.field-0-is k c' is fits
