-- Which image procedures have.
use Rattle.std.specs.Prelude.{◌≡◌, ℕ, ◌<◌, ◌≤◌, ◌^◌, List, map, get_or, false, length}
use Rattle.a64_memory.specs.Memory.{AreBytes}
use Rattle.ssa_core.specs.declared.procedure.Proc.{Proc}
use Rattle.ssa_core.specs.Validity.{IsValid}
use Rattle.a64_select.specs.Selected.{selected}
use Rattle.placed_code.specs.declared.data.ImageData.{ImageData}
use Rattle.placed_code.specs.Results.{all_placed}
use Rattle.placed_code.specs.Layout.{all_words}
use Rattle.linked_flows.specs.Allocations.{Cut, steps_of, all_allocated}
use Rattle.link_plan.specs.Linked.{linked, Runs}
use Rattle.size_limits.specs.Limits.{most_values}
use Rattle.alloc_choice.specs.declared.choice.Choice.{Choice}
use Rattle.flow_allocation.specs.Allocations.{AllAllocations, trace_count}
use Rattle.back_end.specs.declared.imaging.LinkedProcedures.{LinkedProcedures}

-- a valid procedure with few local data; a module's body takes no arguments
pub record IsReady (p : Proc) : Type 0 where
  pub valid : IsValid p
  pub local_data : (p.local_cells < 2 ^ 64) × (p.local_bytes < 2 ^ 24)
  pub body : p.counted ≡ false → p.args ≡ 0

abbrev pub HasFewValues : Proc → Type 0
HasFewValues p = p.values ≤ most_values

-- the flows of procedures in traces with final results, by the choice
pub record AreCutsOf (choice : Choice) (procs : List Proc) (cuts : List Cut) : Type 0 where
  pub flows : map (λ c. c.flow) cuts ≡ map selected procs
  pub each : AllAllocations choice 0 cuts

-- how many words their code has
abbrev pub code_length : List Cut → ℕ
code_length cuts = length (all_words (all_placed steps_of (all_allocated cuts)))

-- these, at most 262,144 traces, linked; the machine that runs the image is in step with what they keep up with
pub record IsImageBy (choice : Choice) (procs : List Proc) (extra : ImageData) (made : LinkedProcedures) : Type 0 where
  pub cuts : List Cut
  pub are : AreCutsOf choice procs cuts
  pub few : trace_count cuts ≤ 262144
  pub count : made.traces ≡ trace_count cuts
  pub is : made.image ≡ linked cuts extra
  pub runs : (input : List ℕ) → AreBytes extra.constants → ((i : ℕ) → get_or input i 0 < 2 ^ 64) → Runs made.image cuts extra input
