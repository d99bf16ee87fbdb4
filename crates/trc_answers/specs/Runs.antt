-- The run of an image, what it comes to, and what bytes come to that are none.
use Rattle.std.specs.Prelude.{ℕ, List, [], Option, option_map}
use Rattle.run_laws.specs.Runs.{Outcome, Ended, Trapped, Going, run}
use Rattle.image_form.specs.declared.image.Image.{Image}
use Rattle.image_form.specs.declared.image.ProcPlace.{ProcPlace}
use Rattle.image_form.specs.Places.{place_before}
use Rattle.a64_machine.specs.State.{Trap, Broke, Undefined, BadAddress, BadCall}
use Rattle.a64_machine.specs.Machine.{start, step_of}
use Rattle.a64_machine.specs.declared.answers.Step.TheVariants as step
use Rattle.image_file.specs.declared.fault.ImageFault.{ImageFault}
use Rattle.image_file.specs.declared.fault.ImageFault.TheVariants.{Fault, Memory}
use Rattle.trc_answers.specs.declared.causes.Spot.{Spot}
use Rattle.trc_answers.specs.declared.causes.Cause.{Cause}
use Rattle.trc_answers.specs.declared.causes.Cause.TheVariants as cause

-- the run of an image on an input, for so many steps
abbrev pub run_of : Image → List ℕ → ℕ → Outcome Trap
run_of image input steps = run (step_of image.code) steps (start image input) []

-- the spot of the procedure in which a code word stands: that of the last place with a word of at most this number
abbrev pub spot_at : List ProcPlace → ℕ → Option Spot
spot_at places word = option_map (λ (place : ProcPlace). let spot : Spot = record { «module» = place.«module»; line = place.line } in spot) (place_before places word)

-- the cause of what stops a machine whose code has procedures at these places
abbrev pub cause_of_trap : List ProcPlace → Trap → Cause
cause_of_trap places (Broke kind word) = cause.Trapped kind (spot_at places word)
cause_of_trap places (Undefined word) = cause.MachineFault (step.Undefined word)
cause_of_trap places (BadAddress address) = cause.MachineFault (step.BadAddress address)
cause_of_trap places (BadCall number) = cause.MachineFault (step.BadCall number)

-- the cause of how a run ends, or is cut off
abbrev pub cause_of_run : List ProcPlace → Outcome Trap → Cause
cause_of_run places (Ended out) = cause.Done
cause_of_run places (Trapped trap out) = cause_of_trap places trap
cause_of_run places (Going out) = cause.Spent

-- the cause of bytes that are no image
abbrev pub cause_of_fault : ImageFault → Cause
cause_of_fault (Fault number at) = cause.NotImage number at
cause_of_fault Memory = cause.Memory
