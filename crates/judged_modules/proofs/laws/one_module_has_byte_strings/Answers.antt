use Rattle.judged_modules.proofs.OneModule.{all_bytes}
use Rattle.judged_modules.proofs.laws.one_module_has_byte_strings.Goals as goal

pub returns : goal.returns
returns c = λ p ok inside fine m read q is sources same. all_bytes p ok inside fine m read q is sources same
