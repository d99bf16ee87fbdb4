use Rattle.judged_modules.proofs.Keeping.{given}
use Rattle.judged_modules.specs.Agrees.{records_of}
use Rattle.judged_programs.specs.Ranked.{IsAdding}
use Rattle.judged_programs.proofs.TypesTidy.{s_more}
use Rattle.judged_programs.proofs.records.more_fields_stay_tidy.Goals as goal

pub returns : goal.returns
returns c = λ from p n x b g h s t is adding tidy. (given (h, t) (s_more from p {Before = IsAdding (records_of s) b g} n b x g s (λ k. k)) is).tidy adding tidy
