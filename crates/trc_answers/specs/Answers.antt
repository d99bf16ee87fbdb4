-- What a command answers, given what it comes to when nothing fails.
use Rattle.std.specs.Prelude.{◌≡◌, ◌⊎◌, ℕ, List, ◌∷◌, Bool, true, false, Option, None, Ok, Err}
use Rattle.outside.specs.Counts.{Rose}
use Rattle.outside.specs.Files.{Held, ToldOfWrite}
use Rattle.outside.specs.Sink.{Account, TookAll, TookFront, TookNothing, Faulted}
use Rattle.outside.specs.declared.files.PutFault.TheVariants as put
use Rattle.run_laws.specs.Runs.{Outcome, output}
use Rattle.image_form.specs.declared.image.ProcPlace.{ProcPlace}
use Rattle.a64_machine.specs.State.{Trap}
use Rattle.trc_answers.specs.Runs.{cause_of_run}
use Rattle.trc_answers.specs.Verdict.{Verdict, Means, Writes, WritesBoth, Accepts, cause_of, files_written, written_by, reads_input}
use Rattle.trc_answers.specs.declared.causes.Device.{Device}
use Rattle.trc_answers.specs.declared.causes.Device.TheVariants.{Files, Input, Output}
use Rattle.trc_answers.specs.declared.causes.Cause.{Cause}
use Rattle.trc_answers.specs.declared.causes.Cause.TheVariants.{ReadFault, WriteFault, Memory, Done}

-- what the devices tell at a moment
pub record Devices : Type 0 where
  pub held : Option Held
  pub files_faults : ℕ
  pub left : Option (List ℕ)
  pub input_faults : ℕ
  pub out : Account

abbrev pub devices : Option Held → ℕ → Option (List ℕ) → ℕ → Account → Devices
devices held files_faults left input_faults out = record { held = held; files_faults = files_faults; left = left; input_faults = input_faults; out = out }

-- the device's count of faults rose
abbrev pub Failed : Devices → Devices → Device → Type 0
Failed old new Files = Rose old.files_faults new.files_faults
Failed old new Input = Rose old.input_faults new.input_faults
Failed old new Output = Faulted old.out new.out

-- two files were written, one after the other
pub record BothWritten (old : Option Held) (name bytes other others : List ℕ) (new : Option Held) : Type 0 where
  pub between : Option Held
  pub first : ToldOfWrite old name bytes between (Ok tt)
  pub second : ToldOfWrite between other others new (Ok tt)

-- what files hold afterwards: each file that was written, and all else as before
abbrev pub FilesHold : Devices → Verdict → Devices → Type 0
FilesHold old (Writes name bytes) new = ToldOfWrite old.held name bytes new.held (Ok tt)
FilesHold old (WritesBoth name bytes other others) new = BothWritten old.held name bytes other others new.held
FilesHold old (Accepts name bytes) new = ToldOfWrite old.held name bytes new.held (Ok tt)
FilesHold old verdict new = new.held ≡ old.held

-- the input is as it was
pub record InputStays (old new : Devices) : Type 0 where
  pub left : new.left ≡ old.left
  pub faults : new.input_faults ≡ old.input_faults

-- all was done to which the command comes
pub record AllDone (old : Devices) (verdict : Verdict) (new : Devices) : Type 0 where
  pub written : TookAll old.out new.out (written_by verdict)
  pub files : FilesHold old verdict new
  pub input : reads_input verdict ≡ false → InputStays old new

-- a front of what the command writes was taken, and the output's count of faults rose; a file is written before that
pub record CutOff (old : Devices) (verdict : Verdict) (new : Devices) : Type 0 where
  pub front : TookFront old.out new.out (written_by verdict)
  pub failed : Failed old new Output
  pub files : FilesHold old verdict new
  pub input : reads_input verdict ≡ false → InputStays old new

-- a front of what the command writes was taken, and the files stayed
pub record CutShort (old : Devices) (verdict : Verdict) (new : Devices) : Type 0 where
  pub front : TookFront old.out new.out (written_by verdict)
  pub files : new.held ≡ old.held
  pub input : reads_input verdict ≡ false → InputStays old new

-- nothing was written
pub record NothingWritten (old new : Devices) : Type 0 where
  pub output : TookNothing old.out new.out
  pub files : new.held ≡ old.held

-- a first file couldn't be written, and may hold anything
pub record FirstFailed (old : Devices) (name bytes : List ℕ) (new : Devices) : Type 0 where
  pub failed : Failed old new Files
  pub output : TookNothing old.out new.out
  pub files : ToldOfWrite old.held name bytes new.held (Err put.Failed)
  pub input : InputStays old new

-- a first file was written, and the second couldn't be, and may hold anything
pub record SecondFailed (old : Devices) (name bytes other others : List ℕ) (new : Devices) : Type 0 where
  pub between : Option Held
  pub first : ToldOfWrite old.held name bytes between (Ok tt)
  pub second : ToldOfWrite between other others new.held (Err put.Failed)
  pub failed : Failed old new Files
  pub output : TookNothing old.out new.out
  pub input : InputStays old new

-- a first file was written, and there was no memory for the second
pub record SecondLacksMemory (old : Devices) (name bytes : List ℕ) (new : Devices) : Type 0 where
  pub first : ToldOfWrite old.held name bytes new.held (Ok tt)
  pub output : TookNothing old.out new.out
  pub input : InputStays old new

-- a command reads the input, by something to which it comes whatever is left of that
pub record ReadsInput (comes_to : Option (List ℕ) → Verdict → Type 0) : Type 0 where
  pub verdict : Verdict
  pub comes : comes_to None verdict
  pub reads : reads_input verdict ≡ true

-- the answer of a command: the cause to which it comes, with all done; a read fault, of the files before the input is touched, or of
-- the input where the command reads it; a write fault, of the output or of a file that it writes, which may hold anything then; or
-- want of memory, with the input as it was unless the command reads it, the first of two files written or not, and what a program
-- means done in part or not at all
pub data Answers (comes : Option (List ℕ) → Verdict → Type 0) (old new : Devices) (cause : Cause) : Type 0 where
  AsItComes : (verdict : Verdict) → comes old.left verdict → cause ≡ cause_of verdict → AllDone old verdict new → Answers comes old new cause
  FailsReadingFiles : cause ≡ ReadFault Files → Failed old new Files → NothingWritten old new → InputStays old new → Answers comes old new cause
  FailsReadingInput : ReadsInput comes → cause ≡ ReadFault Input → Failed old new Input → NothingWritten old new → Answers comes old new cause
  FailsPrinting : (verdict : Verdict) → comes old.left verdict → cause ≡ WriteFault Output → CutOff old verdict new → Answers comes old new cause
  FailsWriting : (verdict : Verdict) (name bytes : List ℕ) (rest : List (List ℕ × List ℕ)) → comes old.left verdict
      → files_written verdict ≡ (name, bytes) ∷ rest → cause ≡ WriteFault Files → FirstFailed old name bytes new → Answers comes old new cause
  FailsWritingSecond : (name bytes other others : List ℕ) → comes old.left (WritesBoth name bytes other others) → cause ≡ WriteFault Files
      → SecondFailed old name bytes other others new → Answers comes old new cause
  LacksMemoryBetween : (name bytes other others : List ℕ) → comes old.left (WritesBoth name bytes other others) → cause ≡ Memory
      → SecondLacksMemory old name bytes new → Answers comes old new cause
  LacksMemoryInside : (reads : Bool) (ended : Cause) (written : List ℕ) → comes old.left (Means reads ended written) → cause ≡ Memory
      → CutShort old (Means reads ended written) new → Answers comes old new cause
  LacksMemory : cause ≡ Memory → NothingWritten old new → InputStays old new ⊎ ReadsInput comes → Answers comes old new cause

-- the answer of a run with this outcome, of an image whose procedures are at these places, between two accounts of the output
pub data RunAnswers (places : List ProcPlace) (outcome : Outcome Trap) (old new : Account) (cause : Cause) : Type 0 where
  Ran : cause ≡ cause_of_run places outcome → TookAll old new (output outcome) → RunAnswers places outcome old new cause
  RanIntoFault : cause ≡ WriteFault Output → TookFront old new (output outcome) → Faulted old new → RunAnswers places outcome old new cause
  HadNoRoom : cause ≡ Memory → TookNothing old new → RunAnswers places outcome old new cause

-- the answer of a command that only prints these lines
pub data PrintAnswers (lines : List ℕ) (old new : Account) (cause : Cause) : Type 0 where
  Printed : cause ≡ Done → TookAll old new lines → PrintAnswers lines old new cause
  PrintedAFront : cause ≡ WriteFault Output → TookFront old new lines → Faulted old new → PrintAnswers lines old new cause
