-- Texts come to one thing.
use Rattle.std.proofs.Common.{◌≡◌, ℕ, List, sym, ap, ◌∙◌}
use Rattle.ob_types.specs.declared.program.Program.{Program}
use Rattle.explanations.specs.declared.format.Format.{Format}
use Rattle.source_program.specs.Texts.{IsProgramOfTexts, IsSourceFault}
use Rattle.source_program.specs.declared.fault.SourceFault.{SourceFault}
use Rattle.source_program.specs.declared.fault.SourceFault.TheVariants.{Memory}
use Rattle.trc_answers.specs.Verdict.{Verdict}
use Rattle.module_check.specs.Checks.{CheckComesTo, AreLegal, AreNot, told_of}

module _ (one_fault : (texts : List (List ℕ)) (a b : SourceFault) → IsSourceFault texts a → IsSourceFault texts b → ¬ (a ≡ Memory) → ¬ (b ≡ Memory) → a ≡ b)
    (apart : (texts : List (List ℕ)) (p : Program) (a : SourceFault) → IsProgramOfTexts texts p → IsSourceFault texts a → a ≡ Memory) where
  -- by the law of one first fault, texts come to one verdict
  pub check_once : (format : Format) (names texts : List (List ℕ)) (a b : Verdict) → CheckComesTo format names texts a → CheckComesTo format names texts b → a ≡ b
  check_once format names texts a b (AreLegal p is e) (AreLegal q also f) = e ∙ sym f
  check_once format names texts a b (AreLegal p is e) (AreNot fault why tells f) = absurd (tells (apart texts p fault is why))
  check_once format names texts a b (AreNot fault why tells e) (AreLegal q also f) = absurd (tells (apart texts q fault also why))
  check_once format names texts a b (AreNot one why tells e) (AreNot other also tells' f) = e ∙ ap (told_of format names texts) (one_fault texts one other why also tells tells') ∙ sym f
