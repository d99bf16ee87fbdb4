use Rattle.judged_modules.proofs.Keeping.{given}
use Rattle.judged_modules.proofs.DeclarationsStand.{k_types}
use Rattle.judged_modules.proofs.laws.types_stay_sound.Goals as goal

pub returns : goal.returns
returns c = λ w orders p read ds s t is agrees sound. ((given (tt, t) (k_types w orders.each p read {Before = Unit {0}} ds s) is).sound tt agrees sound).0
