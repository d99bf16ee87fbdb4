use Rattle.judged_modules.proofs.Fine.{procedure_well}
use Rattle.judged_modules.proofs.laws.well_procedures_are_fine.Goals as goal

pub returns : goal.returns
returns c = λ p ok inside f q well same. procedure_well p ok inside f q well same
