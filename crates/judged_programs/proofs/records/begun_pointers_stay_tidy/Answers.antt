use Rattle.std.proofs.Common.{subst, ap}
use Rattle.std.specs.Prelude.{◌++◌, ◌∷◌, [], None}
use Rattle.judged_modules.proofs.Growing.{kept_same}
use Rattle.judged_modules.specs.Agrees.{bases_of}
use Rattle.judged_programs.specs.Tidy.{Tidy}
use Rattle.judged_programs.proofs.TypesTidy.{tidy_with_bases, there_with_one}
use Rattle.judged_programs.proofs.records.begun_pointers_stay_tidy.Goals as goal

pub returns : goal.returns
returns c = λ from s t n is tidy. subst (Tidy from) (ap (λ r. r.1) (kept_same _ (n, t) is)) (tidy_with_bases from s (bases_of s ++ None ∷ []) (there_with_one s tidy.targets) tidy)
