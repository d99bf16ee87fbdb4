-- What a command comes to when nothing fails.
use Rattle.std.specs.Prelude.{◌≡◌, ◌≤◌, ◌<◌, ℕ, List, [], ◌∷◌, ◌++◌, codes, length, Bool, true, false, Option, Some, None}
use Rattle.outside.specs.Files.{Held}
use Rattle.run_laws.specs.Runs.{Outcome, output}
use Rattle.a64_memory.specs.Memory.{AreBytes}
use Rattle.image_form.specs.declared.image.Image.{Image}
use Rattle.image_form.specs.declared.image.ProcPlace.{ProcPlace}
use Rattle.image_form.specs.Form.{IsInForm}
use Rattle.image_file.specs.Rules.{Broken, first_fault}
use Rattle.image_file.specs.Spelling.{image_bytes, in_version_one, IsOfWords}
use Rattle.image_file.specs.Differing.{DifferAt}
use Rattle.elf_file.specs.Spelling.{elf_bytes}
use Rattle.a64_machine.specs.State.{Trap}
use Rattle.trc_answers.specs.Runs.{run_of, cause_of_run}
use Rattle.trc_answers.specs.declared.causes.Cause.{Cause}
use Rattle.trc_answers.specs.declared.causes.Cause.TheVariants.{NoSuchFile, OtherImage, NotImage, InputTooLong, Done}

-- a command is refused for a cause, finds one in texts and prints a line of it, runs an image whose procedures are at these places, does what a program means and ends for a cause
-- with this written, writes a file, writes one and then another, writes one and prints that what it was made of is sound, or prints
-- lines, or lines of what came of the input
pub data Verdict : Type 0 where
  Refuses : Cause → Verdict
  Finds : Cause → (line : List ℕ) → Verdict
  Runs : (reads_input : Bool) (places : List ProcPlace) → Outcome Trap → Verdict
  Means : (reads_input : Bool) → Cause → (written : List ℕ) → Verdict
  Writes : (name bytes : List ℕ) → Verdict
  WritesBoth : (name bytes other others : List ℕ) → Verdict
  Accepts : (name bytes : List ℕ) → Verdict
  Prints : List ℕ → Verdict
  Tells : (reads_input : Bool) (lines : List ℕ) → Verdict

-- the cause that it answers
abbrev pub cause_of : Verdict → Cause
cause_of (Refuses cause) = cause
cause_of (Finds cause line) = cause
cause_of (Runs reads places outcome) = cause_of_run places outcome
cause_of (Means reads cause written) = cause
cause_of (Writes name bytes) = Done
cause_of (WritesBoth name bytes other others) = Done
cause_of (Accepts name bytes) = Done
cause_of (Prints lines) = Done
cause_of (Tells reads lines) = Done

-- the line that tells that results are sound
abbrev pub sound_line : List ℕ
sound_line = codes "sound" ++ 10 ∷ []

-- what it writes on the output
abbrev pub written_by : Verdict → List ℕ
written_by (Refuses cause) = []
written_by (Finds cause line) = line
written_by (Runs reads places outcome) = output outcome
written_by (Means reads cause written) = written
written_by (Writes name bytes) = []
written_by (WritesBoth name bytes other others) = []
written_by (Accepts name bytes) = sound_line
written_by (Prints lines) = lines
written_by (Tells reads lines) = lines

-- the files that it writes, in order, each with its bytes
abbrev pub files_written : Verdict → List (List ℕ × List ℕ)
files_written (Writes name bytes) = (name, bytes) ∷ []
files_written (WritesBoth name bytes other others) = (name, bytes) ∷ (other, others) ∷ []
files_written (Accepts name bytes) = (name, bytes) ∷ []
files_written other = []

-- whether it reads the input
abbrev pub reads_input : Verdict → Bool
reads_input (Refuses InputTooLong) = true
reads_input (Runs reads places outcome) = reads
reads_input (Means reads cause written) = reads
reads_input (Tells reads lines) = reads
reads_input _ = false

-- what the devices tell before a command: what files hold, and what is left of the input, each where it is told
pub record World : Type 0 where
  pub held : Option Held
  pub left : Option (List ℕ)

abbrev pub world : Option Held → Option (List ℕ) → World
world held left = record { held = held; left = left }

-- where the files tell what they hold, this is held under the name
abbrev pub IsHeld : Option Held → List ℕ → Option (List ℕ) → Type 0
IsHeld None name content = Unit {0}
IsHeld (Some held) name content = held name ≡ content

-- where it is told what is left of the input, this is
abbrev pub IsLeft : Option (List ℕ) → List ℕ → Type 0
IsLeft None input = Unit {0}
IsLeft (Some left) input = left ≡ input

-- the most bytes of an image's file
abbrev pub most_image : ℕ
most_image = 16777216

-- the file of an image, the one of this number among those that a command reads, isn't there, has too many bytes, or its bytes
-- come to something
pub data FileComesTo (held : Option Held) (number : ℕ) (name : List ℕ) (next : List ℕ → Verdict → Type 0) (verdict : Verdict) : Type 0 where
  IsMissing : IsHeld held name None → verdict ≡ Refuses (NoSuchFile number) → FileComesTo held number name next verdict
  HasTooMany : (bytes : List ℕ) → IsHeld held name (Some bytes) → most_image < length bytes
      → verdict ≡ Refuses (NotImage 65 most_image) → FileComesTo held number name next verdict
  HasBytes : (bytes : List ℕ) → IsHeld held name (Some bytes) → length bytes ≤ most_image → next bytes verdict → FileComesTo held number name next verdict

-- an image is run, on the input where its flag says that it reads it
pub data ImageComesTo (left : Option (List ℕ)) (steps : ℕ) (image : Image) (verdict : Verdict) : Type 0 where
  RunsAlone : image.flags ≡ 0 → verdict ≡ Runs false image.places (run_of image [] steps) → ImageComesTo left steps image verdict
  RunsOnInput : (input : List ℕ) → image.flags ≡ 1 → IsLeft left input → AreBytes input → length input ≤ 1048576
      → verdict ≡ Runs true image.places (run_of image input steps) → ImageComesTo left steps image verdict
  HasTooMuch : (input : List ℕ) → image.flags ≡ 1 → IsLeft left input → 1048576 < length input
      → verdict ≡ Refuses InputTooLong → ImageComesTo left steps image verdict

-- bytes break a rule of images, or are an image, which is run
pub data BytesComeTo (left : Option (List ℕ)) (steps : ℕ) (bytes : List ℕ) (verdict : Verdict) : Type 0 where
  AreNoImage : (broken : Broken) → first_fault bytes ≡ Some broken
      → verdict ≡ Refuses (NotImage broken.number broken.at) → BytesComeTo left steps bytes verdict
  AreAnImage : (image : Image) → IsInForm image → IsOfWords image → bytes ≡ image_bytes image
      → ImageComesTo left steps image verdict
      → BytesComeTo left steps bytes verdict

-- bytes are written to the file of this name
abbrev pub IsWritten : (name bytes : List ℕ) → Verdict → Type 0
IsWritten name bytes verdict = verdict ≡ Writes name bytes

-- an image is written
abbrev pub Written : List ℕ → Image → Verdict → Type 0
Written name image = IsWritten name (image_bytes image)

-- its native program is written
abbrev pub WrittenElf : List ℕ → Image → Verdict → Type 0
WrittenElf name image = IsWritten name (elf_bytes image)

-- it is written, and then these bytes to another file
abbrev pub WrittenWith : (name : List ℕ) → Image → (other others : List ℕ) → Verdict → Type 0
WrittenWith name image other others verdict = verdict ≡ WritesBoth name (image_bytes image) other others

-- it is written, and told to be made of sound results
abbrev pub Accepted : List ℕ → Image → Verdict → Type 0
Accepted name image verdict = verdict ≡ Accepts name (image_bytes image)

-- where these bytes are an image's bytes in version 1, it comes to something; else the first difference is told
pub data Renews (bytes : List ℕ) (image : Image) (next : Verdict → Type 0) (verdict : Verdict) : Type 0 where
  AreTheSame : bytes ≡ image_bytes (in_version_one image) → next verdict → Renews bytes image next verdict
  Differ : (at : ℕ) → DifferAt at bytes (image_bytes (in_version_one image)) → verdict ≡ Refuses (OtherImage at) → Renews bytes image next verdict
