use Rattle.trace_rows.proofs.Telling.{told_is_walked}
use Rattle.trace_rows.proofs.laws.told_values_are_walked.Goals as goal

pub returns : goal.returns
returns c = told_is_walked
