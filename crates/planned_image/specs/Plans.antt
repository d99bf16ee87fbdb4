-- Plans of programs.
use Rattle.std.specs.Prelude.{◌≡◌, ◌≤◌, ℕ, List, All, map, true, Some, None}
use Rattle.ob_types.specs.WellFormed.{well_formed}
use Rattle.ob_types.specs.declared.program.Program.{Program}
use Rattle.ssa_lowered.specs.Limits.{limit_of}
use Rattle.ssa_lowered.specs.Lowered.{lowered}
use Rattle.lowered_valid.specs.Claims.{IsShort}
use Rattle.trace_build.specs.declared.builder.Builder.{Builder}
use Rattle.trace_build.specs.Traces.{traces_in}
use Rattle.image_words.specs.alloc_choice.declared.choice.Choice.{Choice}
use Rattle.image_words.specs.compiled_runs.Compiled.{flows_of, data_of}
use Rattle.placed_image.specs.Cutting.{AreCutBy}
use Rattle.placed_image.specs.Placing.{IsPlaceable}
use Rattle.image_words.specs.program_image.Faults.{TellsOfTraces}
use Rattle.image_words.specs.program_image.Limits.{most_traces}
use Rattle.image_words.specs.program_image.declared.fault.ProgramFault.{ProgramFault}
use Rattle.image_words.specs.program_image.declared.fault.ProgramFault.TheVariants as whole
use Rattle.image_words.specs.source_program.Texts.{IsProgramOfTexts}
use Rattle.planned_image.specs.declared.planning.ProgramFlows.{ProgramFlows}
use Rattle.planned_image.specs.declared.planning.ProgramPlan.{ProgramPlan}

-- the flows of a program's lowered procedures, which are short, and its data; no limit of lowering is passed
pub record AreProgramFlows (p : Program) (made : ProgramFlows) : Type 0 where
  pub within : limit_of p ≡ None
  pub short : All IsShort (lowered p)
  pub flows : made.flows.items ≡ flows_of p
  pub placeable : All IsPlaceable made.flows.items
  pub extra : made.extra ≡ data_of p

-- a fault of a limit tells of the first of lowering that is passed; want of memory tells nothing
abbrev pub TellsOfLowering : Program → ProgramFault → Type 0
TellsOfLowering p (whole.Limit n i) = limit_of p ≡ Some (record { number = n; index = i })
TellsOfLowering p whole.Memory = Unit {0}

-- the flows of a program's lowered procedures, which are short, their traces by a builder, at most 262,144, and the program's data;
-- no limit of lowering is passed
pub record IsProgramPlan (builder : Builder) (p : Program) (plan : ProgramPlan) : Type 0 where
  pub within : limit_of p ≡ None
  pub short : All IsShort (lowered p)
  pub flows : plan.flows.items ≡ flows_of p
  pub placeable : All IsPlaceable plan.flows.items
  pub cut : AreCutBy builder plan.flows.items (map (λ v. v.items) plan.cuts.items)
  pub few : traces_in builder (flows_of p) ≤ most_traces
  pub extra : plan.extra ≡ data_of p

-- it is the plan of some well-formed program
pub record IsPlan (plan : ProgramPlan) : Type 0 where
  pub builder : Builder
  pub program : Program
  pub well_formed : well_formed program ≡ true
  pub is : IsProgramPlan builder program plan

-- of a program that the texts are
pub record IsPlanOfTexts (builder : Builder) (texts : List (List ℕ)) (plan : ProgramPlan) : Type 0 where
  pub program : Program
  pub of_texts : IsProgramOfTexts texts program
  pub well_formed : well_formed program ≡ true
  pub is : IsProgramPlan builder program plan

-- a fault tells of the first limit that is passed on the way to the traces of this builder
abbrev pub TellsOfPlan : Builder → Program → ProgramFault → Type 0
TellsOfPlan builder p fault = (choice : Choice) → choice.builder ≡ builder → TellsOfTraces choice p fault
