use Rattle.std.proofs.Common.{subst, ap}
use Rattle.std.specs.Prelude.{Some, slice_set}
use Rattle.judged_modules.proofs.Growing.{kept_same}
use Rattle.judged_modules.specs.Agrees.{bases_of}
use Rattle.judged_programs.specs.Tidy.{Tidy}
use Rattle.judged_programs.proofs.TypesTidy.{tidy_with_bases, there_with_base}
use Rattle.judged_programs.proofs.records.pointers_stay_tidy.Goals as goal

pub returns : goal.returns
returns c = λ from s t n r is there tidy. subst (Tidy from) (ap (λ q. q.1) (kept_same _ (tt, t) is)) (tidy_with_bases from s (slice_set (bases_of s) n (Some r)) (there_with_base s n r there tidy.targets) tidy)
