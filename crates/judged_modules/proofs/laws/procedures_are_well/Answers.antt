use Rattle.judged_modules.proofs.Keeping.{given}
use Rattle.judged_modules.proofs.ProceduresStand.{k_decls}
use Rattle.judged_modules.proofs.laws.procedures_are_well.Goals as goal

pub returns : goal.returns
returns c = λ w orders p read d s t is agrees sound. (given (tt, t) (k_decls w p orders.each read d s) is).sound agrees sound
