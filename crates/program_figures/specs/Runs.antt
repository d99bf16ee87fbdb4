-- How a run ends, and how many steps it takes.
use Rattle.std.specs.Prelude.{◌≡◌, ◌≤◌, ◌<◌, ◌⊎◌, ℕ, zero, suc, List, Bool, true, false, if◌then◌else◌}
use Rattle.run_laws.specs.Runs.{Outcome, Ended, Trapped, Going, IsOver}
use Rattle.image_form.specs.declared.image.Image.{Image}
use Rattle.a64_machine.specs.State.{Trap, Broke, Undefined, BadAddress, BadCall}
use Rattle.a64_machine.specs.declared.answers.Halt.{Halt}
use Rattle.a64_machine.specs.declared.answers.Halt.TheVariants as halt
use Rattle.trc_answers.specs.Runs.{run_of}
use Rattle.program_figures.specs.declared.running.CountedRun.{CountedRun}

-- the halt of what stops a machine
abbrev pub halt_of_trap : Trap → Halt
halt_of_trap (Broke kind word) = halt.Trapped kind word
halt_of_trap (Undefined word) = halt.Undefined word
halt_of_trap (BadAddress address) = halt.BadAddress address
halt_of_trap (BadCall number) = halt.BadCall number

-- and of how a run ends, or is cut off
abbrev pub halt_of : Outcome Trap → Halt
halt_of (Ended out) = halt.Ended
halt_of (Trapped trap out) = halt_of_trap trap
halt_of (Going out) = halt.Spent

-- whether a run came to a halt within its bound
abbrev pub is_over : Outcome Trap → Bool
is_over (Ended out) = true
is_over (Trapped trap out) = true
is_over (Going out) = false

-- the first number of steps from `least` on with which a run is over, of so many numbers; where there is none, the number behind these
abbrev pub first_over : (runs : ℕ → Outcome Trap) → (count least : ℕ) → ℕ
first_over runs zero least = least
first_over runs (suc count) least = if is_over (runs least) then least else first_over runs count (suc least)

-- the fewest steps with which the run of an image on an input is over, or all that are allowed
abbrev pub steps_made : Image → (input : List ℕ) → (allowed : ℕ) → ℕ
steps_made image input allowed = first_over (λ n. run_of image input n) allowed 0

-- how the run of an image on an input ends with so many steps, and how many it makes
abbrev pub counted_run : Image → (input : List ℕ) → (allowed : ℕ) → CountedRun
counted_run image input allowed = record { halt = halt_of (run_of image input allowed); steps = steps_made image input allowed }

-- with fewer steps a run isn't over; with these it is, or they are all that are allowed
pub record AreFewest (runs : ℕ → Outcome Trap) (allowed steps : ℕ) : Type 0 where
  pub within : steps ≤ allowed
  pub too_few : (n : ℕ) → n < steps → IsOver (runs n) → ⊥
  pub enough : IsOver (runs steps) ⊎ (steps ≡ allowed)
