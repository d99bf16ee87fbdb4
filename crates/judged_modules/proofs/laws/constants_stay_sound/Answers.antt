use Rattle.judged_modules.proofs.Keeping.{given}
use Rattle.judged_modules.proofs.DeclarationsStand.{k_const}
use Rattle.judged_modules.proofs.laws.constants_stay_sound.Goals as goal

pub returns : goal.returns
returns c = λ w orders p read d s t is agrees sound. ((given (tt, t) (k_const w orders.each p read {Before = Unit {0}} d s) is).sound tt agrees sound).0
