use Rattle.std.proofs.Common.{subst, ap}
use Rattle.judged_modules.proofs.Growing.{kept_same}
use Rattle.judged_programs.specs.Tidy.{Tidy}
use Rattle.judged_programs.proofs.TypesTidy.{tidy_set_record}
use Rattle.judged_programs.proofs.records.completed_records_stay_tidy.Goals as goal

pub returns : goal.returns
returns c = λ from s t n b g l is empty base adding line added cells extent few tidy. subst (Tidy from) (ap (λ r. r.1) (kept_same _ (tt, t) is)) (tidy_set_record from s n b g l empty base adding line added cells extent few tidy)
