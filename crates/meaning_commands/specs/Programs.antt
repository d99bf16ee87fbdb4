-- The program that texts are, where it passes no limit, and its image.
use Rattle.std.specs.Prelude.{◌≡◌, ◌≤◌, ℕ, List, true, None}
use Rattle.image_form.specs.declared.image.Image.{Image}
use Rattle.image_form.specs.Form.{IsInForm}
use Rattle.ob_types.specs.WellFormed.{well_formed}
use Rattle.ob_types.specs.declared.program.Program.{Program}
use Rattle.ssa_lowered.specs.Limits.{limit_of}
use Rattle.trc_texts.specs.words.compiled_runs.Compiled.{flows_of}
use Rattle.trace_build.specs.Traces.{traces_in}
use Rattle.trace_build.specs.declared.builder.Builder.TheVariants.{Bi}
use Rattle.linked_flows.specs.Allocations.{Cut}
use Rattle.trc_texts.specs.words.alloc_choice.declared.choice.Choice.{Choice}
use Rattle.trc_texts.specs.words.alloc_choice.declared.choice.Policy.TheVariants.{Linear}
use Rattle.trc_texts.specs.words.program_image.Images.{IsProgramImage, DoesAsMeant}
use Rattle.trc_texts.specs.words.program_image.Limits.{most_traces}
use Rattle.trc_texts.specs.words.program_image.declared.fault.ProgramFault.{ProgramFault}
use Rattle.trc_texts.specs.words.source_program.Texts.{IsProgramOfTexts}
use Rattle.trc_texts.specs.words.source_image.Refusals.{IsRefusalOf}
use Rattle.trc_texts.specs.words.source_image.declared.refusal.Refusal.{Refusal}

-- the choice where words don't say any: what limits a program has, they have by its builder
abbrev pub usual_choice : Choice
usual_choice = record { policy = Linear; builder = Bi; regs = 16; jobs = 4 }

-- texts are this program
pub record AreProgram (texts : List (List ℕ)) (p : Program) : Type 0 where
  pub of_texts : IsProgramOfTexts texts p
  pub well_formed : well_formed p ≡ true

-- it passes no limit of lowering, and has not too many traces
pub record IsWithinLimits (choice : Choice) (p : Program) : Type 0 where
  pub within : limit_of p ≡ None
  pub few : traces_in choice.builder (flows_of p) ≤ most_traces

-- texts break a rule of the language first
abbrev pub IsNoProgram : List (List ℕ) → Refusal → Type 0
IsNoProgram = IsRefusalOf (λ p fault. ⊥)

-- the image of a program by a choice, and that the machine that runs it is in step with what the program means
pub record IsImageOfProgram (choice : Choice) (p : Program) (image : Image) : Type 0 where
  pub limits : IsWithinLimits choice p
  pub cuts : List Cut
  pub is : IsProgramImage choice p cuts image
  pub means : DoesAsMeant p cuts image
  pub form : IsInForm image
