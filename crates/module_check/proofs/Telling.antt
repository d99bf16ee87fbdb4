-- What is told of texts, for the command.
use Rattle.std.proofs.Common.{◌≡◌, ◌<◌, ℕ, zero, suc, List, [], ◌∷◌, length, Option, Some, refl, inl, sym, subst, arith}
use Rattle.std.specs.Prelude.{slice_get}
use Rattle.outside.specs.Files.{Held}
use Rattle.outside.specs.Sink.{Account}
use Rattle.ob_types.specs.declared.program.Program.{Program}
use Rattle.explanations.specs.declared.format.Format.{Format}
use Rattle.explanations.specs.declared.format.Format.TheVariants.{Text, Json}
use Rattle.source_program.specs.Texts.{IsProgramOfTexts, IsSourceFault}
use Rattle.source_program.specs.declared.fault.SourceFault.TheVariants as source
use Rattle.trc_answers.specs.declared.causes.Cause.{Cause}
use Rattle.trc_answers.specs.declared.causes.Cause.TheVariants as cause
use Rattle.trc_answers.specs.Verdict.{Verdict, Refuses, Finds}
use Rattle.trc_answers.specs.Causes.{name_at}
use Rattle.trc_answers.specs.Answers.{Answers, AsItComes, FailsPrinting, LacksMemory, PrintAnswers, devices}
use Rattle.trc_answers.proofs.Answering.{lacks, prints, refuses}
use Rattle.module_check.specs.Lines.{fault_line}
use Rattle.module_check.specs.Checks.{CheckComesTo, AreLegal, AreNot, FindAnswers, WasTold, RanIntoFault, HadNoMemory, told_of}

-- from what was told to the command
pub finds : (comes : Option (List ℕ) → Verdict → Type 0) (ended : Cause) (line : List ℕ) (held : Option Held) (m : ℕ) (left : Option (List ℕ)) (k : ℕ) (a b : Account) (answer : Cause)
    → comes left (Finds ended line) → FindAnswers ended line a b answer → Answers comes (devices held m left k a) (devices held m left k b) answer
finds comes ended line held m left k a b answer it (WasTold is took) =
    AsItComes (Finds ended line) it is (record { written = took; files = refl; input = λ e. record { left = refl; faults = refl } })
finds comes ended line held m left k a b answer it (RanIntoFault is took rose) =
    FailsPrinting (Finds ended line) it is (record { front = took; failed = rose; files = refl; input = λ e. record { left = refl; faults = refl } })
finds comes ended line held m left k a b answer it (HadNoMemory is took) = LacksMemory is (record { output = took; files = refl }) (inl (record { left = refl; faults = refl }))

there : (texts : List (List ℕ)) (n : ℕ) (text : List ℕ) → slice_get texts n ≡ Some text → n < length texts
there [] zero text e = absurd (let z = e in cc)
there [] (suc n) text e = absurd (let z = e in cc)
there (t ∷ texts) zero text e = omega arith
there (t ∷ texts) (suc n) text e = let l = there texts n text e in omega (arith, l)

-- the module that is named is one of the texts
pub broken_there : (texts : List (List ℕ)) (m rule at : ℕ) → IsSourceFault texts (source.Fault m rule at) → m < length texts
broken_there texts m rule at h = there texts m h.bytes h.text

pub long_there : (texts : List (List ℕ)) (m : ℕ) → IsSourceFault texts (source.TooLong m) → m < length texts
long_there texts m h = there texts m h.bytes h.text

module _ (names texts : List (List ℕ)) (held : Option Held) (faults : ℕ) (left : Option (List ℕ)) (k : ℕ) where
  -- a broken rule is told by the line for people alone
  pub told_plainly : (m rule at : ℕ) → IsSourceFault texts (source.Fault m rule at) → (answer : Cause) (out : Account) → answer ≡ cause.Source rule m at
      → Answers (λ _. CheckComesTo Text names texts) (devices held faults left k out) (devices held faults left k out) answer
  told_plainly m rule at why answer out is =
      subst (Answers (λ _. CheckComesTo Text names texts) (devices held faults left k out) (devices held faults left k out)) (sym is)
      (refuses (λ _. CheckComesTo Text names texts) held held faults faults left k out (cause.Source rule m at) refl
      (AreNot (source.Fault m rule at) why (λ e. let z : source.Fault m rule at ≡ source.Memory = e in cc) refl))

  -- and by a line of JSON, too
  pub told_by_line : (m rule at : ℕ) → IsSourceFault texts (source.Fault m rule at) → (answer : Cause) (a b : Account)
      → FindAnswers (cause.Source rule m at) (fault_line (name_at names m) (name_at texts m) rule at) a b answer
      → Answers (λ _. CheckComesTo Json names texts) (devices held faults left k a) (devices held faults left k b) answer
  told_by_line m rule at why answer a b answers =
      finds (λ _. CheckComesTo Json names texts) (cause.Source rule m at) (fault_line (name_at names m) (name_at texts m) rule at) held faults left k a b answer
      (AreNot (source.Fault m rule at) why (λ e. let z : source.Fault m rule at ≡ source.Memory = e in cc) refl) answers

  -- texts are legal
  pub told_legal : (format : Format) → (p : Program) × IsProgramOfTexts texts p → (answer : Cause) (a b : Account) → PrintAnswers [] a b answer
      → Answers (λ _. CheckComesTo format names texts) (devices held faults left k a) (devices held faults left k b) answer
  told_legal format legal answer a b answers = prints (λ _. CheckComesTo format names texts) [] held faults left k a b answer (AreLegal legal.0 legal.1 refl) answers

  long_told : (format : Format) (m : ℕ) → Refuses (cause.Limit 55 m) ≡ told_of format names texts (source.TooLong m)
  long_told Text m = refl
  long_told Json m = refl

  -- a text is too long
  pub told_long : (format : Format) (m : ℕ) → IsSourceFault texts (source.TooLong m) → (answer : Cause) (out : Account) → answer ≡ cause.Limit 55 m
      → Answers (λ _. CheckComesTo format names texts) (devices held faults left k out) (devices held faults left k out) answer
  told_long format m why answer out is =
      subst (Answers (λ _. CheckComesTo format names texts) (devices held faults left k out) (devices held faults left k out)) (sym is)
      (refuses (λ _. CheckComesTo format names texts) held held faults faults left k out (cause.Limit 55 m) refl
      (AreNot (source.TooLong m) why (λ e. let z : source.TooLong m ≡ source.Memory = e in cc) (long_told format m)))

  -- there was no memory
  pub told_lack : (format : Format) (answer : Cause) (out : Account) → answer ≡ cause.Memory
      → Answers (λ _. CheckComesTo format names texts) (devices held faults left k out) (devices held faults left k out) answer
  told_lack format answer out is = lacks (λ _. CheckComesTo format names texts) held held faults faults left k out answer is refl
