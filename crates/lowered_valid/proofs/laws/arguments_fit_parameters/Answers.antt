use Rattle.lowered_valid.proofs.Procedures.{ends_fit, first_params}
use Rattle.lowered_valid.proofs.laws.arguments_fit_parameters.Goals as goal

pub returns-clause-ends : goal.returns-clause-ends
returns-clause-ends c = ends_fit

pub returns-clause-first : goal.returns-clause-first
returns-clause-first c = first_params
