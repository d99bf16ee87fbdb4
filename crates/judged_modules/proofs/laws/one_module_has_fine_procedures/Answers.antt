use Rattle.judged_modules.proofs.OneModule.{all_fine}
use Rattle.judged_modules.proofs.laws.one_module_has_fine_procedures.Goals as goal

pub returns : goal.returns
returns c = λ p ok inside fine m read q is sources same. all_fine p ok inside fine m read q is sources same
