-- Texts are refused for one reason.
use Rattle.std.proofs.Common.{◌≡◌, ℕ, List, true, None, refl, sym, ap, ap₂, ◌∙◌, subst}
use Rattle.ob_types.specs.WellFormed.{well_formed}
use Rattle.ob_types.specs.declared.program.Program.{Program}
use Rattle.ssa_lowered.specs.Limits.{Limit}
use Rattle.source_image.specs.program_image.declared.fault.ProgramFault.{ProgramFault}
use Rattle.source_image.specs.program_image.declared.fault.ProgramFault.TheVariants as whole
use Rattle.source_image.specs.source_program.Texts.{IsProgramOfTexts, IsSourceFault}
use Rattle.source_image.specs.source_program.declared.fault.SourceFault.{SourceFault}
use Rattle.source_image.specs.source_program.declared.fault.SourceFault.TheVariants as source
use Rattle.source_image.specs.Refusals.{HaveFault, IsRefusalOf, of_source}
use Rattle.source_image.specs.declared.refusal.Refusal.{Refusal}
use Rattle.source_image.specs.declared.refusal.Refusal.TheVariants.{TooLong, Source, Limit as OfLimit, Memory}
use Rattle.one_lowering.specs.Forms.{HaveOneLowering}

not_memory_long : (n : ℕ) → source.TooLong n ≡ source.Memory → ⊥
not_memory_long n e = cc

not_memory_fault : (n rule at : ℕ) → source.Fault n rule at ≡ source.Memory → ⊥
not_memory_fault n rule at e = cc

-- faults of programs that have one lowering tell of one limit
abbrev Once : (TellsOf Tells : Program → ProgramFault → Type 0) → Type 0
Once TellsOf Tells = (p q : Program) → HaveOneLowering p q → (n i m j : ℕ) → TellsOf p (whole.Limit n i) → Tells q (whole.Limit m j) → (n ≡ m) × (i ≡ j)

module _ (one_fault : (texts : List (List ℕ)) (a b : SourceFault) → IsSourceFault texts a → IsSourceFault texts b → ¬ (a ≡ source.Memory) → ¬ (b ≡ source.Memory) → a ≡ b)
    (apart : (texts : List (List ℕ)) (p : Program) (a : SourceFault) → IsProgramOfTexts texts p → IsSourceFault texts a → a ≡ source.Memory)
    (one_lowering : (texts : List (List ℕ)) (p q : Program) → IsProgramOfTexts texts p → IsProgramOfTexts texts q → well_formed p ≡ true → well_formed q ≡ true → HaveOneLowering p q) where
  -- a fault of the texts, as a refusal, is no limit
  pub long_apart : (texts : List (List ℕ)) (p : Program) (n : ℕ) → IsProgramOfTexts texts p → IsSourceFault texts (source.TooLong n) → ⊥
  long_apart texts p n x h = not_memory_long n (apart texts p (source.TooLong n) x h)

  pub fault_apart : (texts : List (List ℕ)) (p : Program) (n rule at : ℕ) → IsProgramOfTexts texts p → IsSourceFault texts (source.Fault n rule at) → ⊥
  fault_apart texts p n rule at x h = not_memory_fault n rule at (apart texts p (source.Fault n rule at) x h)

  module _ (TellsOf Tells : Program → ProgramFault → Type 0) (once : Once TellsOf Tells) (texts : List (List ℕ)) where
    pub refused_once : (r s : Refusal) → IsRefusalOf TellsOf texts r → IsRefusalOf Tells texts s → ¬ (r ≡ Memory) → ¬ (s ≡ Memory) → r ≡ s
    refused_once Memory s x y e f = absurd (e refl)
    refused_once r Memory x y e f = absurd (f refl)
    refused_once (TooLong n) (TooLong m) x y e f = ap of_source (one_fault texts (source.TooLong n) (source.TooLong m) x y (not_memory_long n) (not_memory_long m))
    refused_once (TooLong n) (Source m rule at) x y e f = ap of_source (one_fault texts (source.TooLong n) (source.Fault m rule at) x y (not_memory_long n) (not_memory_fault m rule at))
    refused_once (TooLong n) (OfLimit m j) x y e f = absurd (long_apart texts y.program n y.of_texts x)
    refused_once (Source n rule at) (TooLong m) x y e f = ap of_source (one_fault texts (source.Fault n rule at) (source.TooLong m) x y (not_memory_fault n rule at) (not_memory_long m))
    refused_once (Source n rule at) (Source m other place) x y e f = ap of_source (one_fault texts (source.Fault n rule at) (source.Fault m other place) x y (not_memory_fault n rule at) (not_memory_fault m other place))
    refused_once (Source n rule at) (OfLimit m j) x y e f = absurd (fault_apart texts y.program n rule at y.of_texts x)
    refused_once (OfLimit n i) (TooLong m) x y e f = absurd (long_apart texts x.program m x.of_texts y)
    refused_once (OfLimit n i) (Source m rule at) x y e f = absurd (fault_apart texts x.program m rule at x.of_texts y)
    refused_once (OfLimit n i) (OfLimit m j) x y e f =
        let both = once x.program y.program (one_lowering texts x.program y.program x.of_texts y.of_texts x.well_formed y.well_formed) n i m j x.tells y.tells in
        ap₂ OfLimit both.0 both.1

  -- a program of the texts that passes none
  module _ (Tells : Program → ProgramFault → Type 0) (texts : List (List ℕ)) (p : Program) (of_texts : IsProgramOfTexts texts p) (fine : well_formed p ≡ true)
      (none : (q : Program) → HaveOneLowering p q → (n i : ℕ) → Tells q (whole.Limit n i) → ⊥) where
    pub excluded : (r : Refusal) → IsRefusalOf Tells texts r → r ≡ Memory
    excluded (TooLong n) h = absurd (long_apart texts p n of_texts h)
    excluded (Source n rule at) h = absurd (fault_apart texts p n rule at of_texts h)
    excluded (OfLimit n i) h = absurd (none h.program (one_lowering texts p h.program of_texts h.of_texts fine h.well_formed) n i h.tells)
    excluded Memory h = refl
