-- What modules come to that are judged.
use Rattle.std.specs.Prelude.{◌≡◌, ℕ, List, []}
use Rattle.outside.specs.Sink.{Account, TookAll, TookFront, TookNothing, Faulted}
use Rattle.ob_types.specs.declared.program.Program.{Program}
use Rattle.explanations.specs.declared.format.Format.{Format}
use Rattle.explanations.specs.declared.format.Format.TheVariants.{Json}
use Rattle.source_program.specs.Texts.{IsProgramOfTexts, IsSourceFault}
use Rattle.source_program.specs.declared.fault.SourceFault.{SourceFault}
use Rattle.source_program.specs.declared.fault.SourceFault.TheVariants as source
use Rattle.trc_answers.specs.declared.causes.Device.TheVariants.{Output}
use Rattle.trc_answers.specs.declared.causes.Cause.{Cause}
use Rattle.trc_answers.specs.declared.causes.Cause.TheVariants as cause
use Rattle.trc_answers.specs.Causes.{name_at}
use Rattle.trc_answers.specs.Verdict.{Verdict, Refuses, Finds, Prints}
use Rattle.module_check.specs.Lines.{fault_line}

-- why texts are no program, as a cause
abbrev pub cause_of_fault : SourceFault → Cause
cause_of_fault (source.TooLong m) = cause.Limit 55 m
cause_of_fault (source.Fault m rule at) = cause.Source rule m at
cause_of_fault source.Memory = cause.Memory

-- how it is told of the texts of files with these names: a rule that is broken in the format for editors by a line of JSON, too
abbrev pub told_of : Format → (names texts : List (List ℕ)) → SourceFault → Verdict
told_of Json names texts (source.Fault m rule at) = Finds (cause.Source rule m at) (fault_line (name_at names m) (name_at texts m) rule at)
told_of format names texts fault = Refuses (cause_of_fault fault)

-- texts are a legal program, and nothing is written; or the first rule that they break is told
pub data CheckComesTo (format : Format) (names texts : List (List ℕ)) (verdict : Verdict) : Type 0 where
  AreLegal : (p : Program) → IsProgramOfTexts texts p → verdict ≡ Prints [] → CheckComesTo format names texts verdict
  AreNot : (fault : SourceFault) → IsSourceFault texts fault → (fault ≡ source.Memory → ⊥) → verdict ≡ told_of format names texts fault
      → CheckComesTo format names texts verdict

-- the answer of what ends for this cause with this line written, between two accounts of the output
pub data FindAnswers (ended : Cause) (line : List ℕ) (old new : Account) (answer : Cause) : Type 0 where
  WasTold : answer ≡ ended → TookAll old new line → FindAnswers ended line old new answer
  RanIntoFault : answer ≡ cause.WriteFault Output → TookFront old new line → Faulted old new → FindAnswers ended line old new answer
  HadNoMemory : answer ≡ cause.Memory → TookNothing old new → FindAnswers ended line old new answer
