-- Which limit a program passes first on its way to an image.
use Rattle.std.specs.Prelude.{◌≡◌, ℕ, ◌<◌, ◌≤◌, List, Some, None}
use Rattle.ob_types.specs.declared.program.Program.{Program}
use Rattle.ssa_lowered.specs.Limits.{Limit, limit_of}
use Rattle.ssa_lowered.specs.Lowered.{lowered}
use Rattle.trace_build.specs.Traces.{traces_in}
use Rattle.linked_flows.specs.Allocations.{Cut}
use Rattle.alloc_choice.specs.declared.choice.Choice.{Choice}
use Rattle.back_end.specs.Images.{AreCutsOf, code_length}
use Rattle.compiled_runs.specs.Compiled.{flows_of}

abbrev pub most_traces : ℕ
most_traces = 262144

abbrev pub most_words : ℕ
most_words = 262144

-- the code of the program's flows in traces with final results by the choice has too many words
abbrev pub HasMuchCode : Choice → Program → Type 0
HasMuchCode choice p = (cuts : List Cut) × AreCutsOf choice (lowered p) cuts × (most_words < code_length cuts)

-- one of the whole program, and not of a procedure
abbrev pub of_all : ℕ → Limit
of_all n = record { number = n; index = 0 }

-- on the way to the traces: a limit of lowering, and behind these too many traces (57)
pub data IsPassedBeforeCode (choice : Choice) (p : Program) : Limit → Type 0 where
  InLowering : (limit : Limit) → limit_of p ≡ Some limit → IsPassedBeforeCode choice p limit
  ByTraces : limit_of p ≡ None → most_traces < traces_in choice.builder (flows_of p) → IsPassedBeforeCode choice p (of_all 57)

-- one of those; and behind all of them too many words (54)
pub data IsPassedFirst (choice : Choice) (p : Program) : Limit → Type 0 where
  BeforeCode : (limit : Limit) → IsPassedBeforeCode choice p limit → IsPassedFirst choice p limit
  ByWords : limit_of p ≡ None → traces_in choice.builder (flows_of p) ≤ most_traces → HasMuchCode choice p → IsPassedFirst choice p (of_all 54)
