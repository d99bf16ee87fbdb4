-- How a machine halts at a step.
use Rattle.std.specs.Prelude.{◌≡◌, ℕ, List, Option, Some, None}
use Rattle.run_laws.specs.Runs.{Step, Moves, Ends, Traps}
use Rattle.a64_machine.specs.State.{State, Trap}
use Rattle.a64_machine.specs.declared.answers.Halt.{Halt}
use Rattle.a64_machine.specs.declared.answers.Halt.TheVariants.{Ended}
use Rattle.program_figures.specs.Runs.{halt_of_trap}

-- the halt of a step, where it is none that goes on
abbrev pub halt_of_step : Step State Trap → Option Halt
halt_of_step (Moves wrote after) = None
halt_of_step Ends = Some Ended
halt_of_step (Traps trap) = Some (halt_of_trap trap)

-- it goes on to this state
pub record IsMove (step : Step State Trap) (after : State) : Type 0 where
  pub wrote : List ℕ
  pub is : step ≡ Moves wrote after
