-- The result for a trivial trace: a node without parameters and operations, which ends with a jump.
use Rattle.std.specs.Prelude.{◌≡◌, ℕ, List, [], ◌∷◌, map, filter, replicate, Option, Some, None, slice_get}
use Rattle.block_runs.specs.declared.end.End.TheVariants.{Jump}
use Rattle.lir_core.specs.declared.flow.Node.{Node}
use Rattle.lir_core.specs.declared.flow.Flow.{Flow}
use Rattle.lir_core.specs.declared.places.Places.{Places}
use Rattle.lir_core.specs.declared.places.TraceOut.{TraceOut}
use Rattle.lir_core.specs.Rows.{has_bit, live_into}
use Rattle.linear_scan.specs.Starts.{if_live}
use Rattle.linear_scan.specs.Linear.{Case, Hint}

-- what is live into the node stands where the hint has it; with no hint it is homed
abbrev pub trivial_start : Case → ℕ → Option Hint → Places
trivial_start x n None = record { regs = replicate x.regs None; homed = live_into x.flow.values x.rows n }
trivial_start x n (Some h) = record { regs = map (if_live (has_bit x.rows n)) h.places.regs; homed = filter (has_bit x.rows n) h.places.homed }

-- the end places are the start places, and there are no lines
abbrev pub trivial : Case → ℕ → List ℕ → Option Hint → TraceOut
trivial x number [] hint = record { trace = number; starts = []; ends = []; lines = []; regs = [] }
trivial x number (n ∷ ns) hint = record { trace = number; starts = trivial_start x n hint ∷ []; ends = trivial_start x n hint ∷ []; lines = [] ∷ []; regs = [] ∷ [] }

pub record IsTrivial (f : Flow) (ns : List ℕ) : Type 0 where
  pub number : ℕ
  pub one : ns ≡ number ∷ []
  pub node : Node
  pub there : slice_get f.nodes number ≡ Some node
  pub no_params : node.params ≡ []
  pub no_operations : node.lirs ≡ []
  pub to : ℕ
  pub args : List ℕ
  pub jumps : node.end ≡ Jump to args
