-- Want of memory is free.
use Rattle.ob_judge.specs.Judged.{Judged, Keeps, Breaks}
use Rattle.check_types.specs.steps.Answers.{Refuses}
use Rattle.check_types.specs.declared.steps.fault.CheckFault.TheVariants.{Memory}

refused : {A : Type 0} (m : Judged A) → Refuses m Memory
refused (Keeps a) = tt
refused (Breaks n at) = tt
