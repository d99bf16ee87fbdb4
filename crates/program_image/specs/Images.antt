-- Which image a program has by a choice, and what it does.
use Rattle.std.specs.Prelude.{◌≡◌, ℕ, ◌≤◌, List}
use Rattle.image_form.specs.declared.image.Image.{Image}
use Rattle.ob_types.specs.declared.program.Program.{Program}
use Rattle.ssa_lowered.specs.Lowered.{lowered}
use Rattle.linked_flows.specs.Allocations.{Cut}
use Rattle.link_plan.specs.Linked.{linked}
use Rattle.alloc_choice.specs.declared.choice.Choice.{Choice}
use Rattle.flow_allocation.specs.Allocations.{trace_count}
use Rattle.back_end.specs.Images.{AreCutsOf}
use Rattle.lowered_runs.specs.Words.{AreInput}
use Rattle.compiled_runs.specs.Compiled.{data_of, Means}
use Rattle.program_image.specs.Limits.{most_traces}

-- the flows of the lowered procedures in traces with final results by the choice, linked with the program's data
pub record IsProgramImage (choice : Choice) (p : Program) (cuts : List Cut) (image : Image) : Type 0 where
  pub are : AreCutsOf choice (lowered p) cuts
  pub few : trace_count cuts ≤ most_traces
  pub is : image ≡ linked cuts (data_of p)

-- on every input the machine that runs it is in step with what the program means
abbrev pub DoesAsMeant : Program → List Cut → Image → Type 0
DoesAsMeant p cuts image = (input : List ℕ) → AreInput input → Means p cuts image input
