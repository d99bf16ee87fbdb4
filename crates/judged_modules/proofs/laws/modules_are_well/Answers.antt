use Rattle.judged_modules.proofs.Keeping.{given}
use Rattle.judged_modules.proofs.ModulesStand.{k_module}
use Rattle.judged_modules.proofs.laws.modules_are_well.Goals as goal

pub returns : goal.returns
returns c = λ w orders p read m s t r is between agrees sound. (given (r, t) (k_module w p orders.each read m s) is).sound between agrees sound
