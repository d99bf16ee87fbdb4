-- Which results can be placed, and the image of those that are.
use Rattle.std.specs.Prelude.{◌≡◌, ℕ, ◌<◌, ◌≤◌, ◌^◌, List, All, get_or, true, false}
use Rattle.a64_memory.specs.Memory.{AreBytes}
use Rattle.image_form.specs.declared.image.Image.{Image}
use Rattle.lir_core.specs.declared.flow.Flow.{Flow}
use Rattle.lir_core.specs.declared.flow.Trace.{Trace}
use Rattle.lir_core.specs.declared.places.TraceOut.{TraceOut}
use Rattle.lir_core.specs.Flows.{IsValidFlow}
use Rattle.trace_build.specs.declared.builder.Builder.{Builder}
use Rattle.placed_code.specs.declared.data.ImageData.{ImageData}
use Rattle.linked_flows.specs.Allocations.{Cut}
use Rattle.link_plan.specs.Linked.{linked, Runs}
use Rattle.size_limits.specs.Limits.{most_values}
use Rattle.alloc_audit.specs.Results.{AreWalked}
use Rattle.back_end.specs.Numbers.{node_numbers}
use Rattle.placed_image.specs.Cutting.{AreCutBy}

-- a valid flow with numbers that can be made, few values and few local data; a module's body takes no arguments
pub record IsPlaceable (f : Flow) : Type 0 where
  pub valid : IsValidFlow f
  pub numbers : node_numbers f.nodes ≡ true
  pub values : f.values ≤ most_values
  pub local_data : (f.local_cells < 2 ^ 64) × (f.local_bytes < 2 ^ 24)
  pub body : f.counted ≡ false → f.args ≡ 0

-- the walk by names accepts the results of all traces, over 4 to 16 registers
pub record CanBePlaced (flows : List Flow) (cuts : List (List Trace)) (outs : List TraceOut) : Type 0 where
  pub builder : Builder
  pub regs : ℕ
  pub enough : 4 ≤ regs
  pub few : regs ≤ 16
  pub flows_are : All IsPlaceable flows
  pub cut : AreCutBy builder flows cuts
  pub walked : AreWalked regs 0 flows cuts outs

-- the linked image of such results; the machine that runs it is in step with what the flows keep up with
pub record IsPlacedImage (cuts : List Cut) (extra : ImageData) (image : Image) : Type 0 where
  pub is : image ≡ linked cuts extra
  pub runs : (input : List ℕ) → AreBytes extra.constants → ((i : ℕ) → get_or input i 0 < 2 ^ 64) → Runs image cuts extra input
