-- What is read of notes, and why it isn't.
use Rattle.std.specs.Prelude.{◌≡◌, ◌≤◌, ◌<◌, ◌^◌, ℕ, suc, List, length, Option, Some, None, Vec}
use Rattle.std.specs.Global.{Global}
use Rattle.outside.specs.Counts.{Rose}
use Rattle.outside.specs.Files.{Held}
use Rattle.trace_notes.specs.Notes.{most_bytes}
use Rattle.trc_answers.specs.Verdict.{IsHeld}
use Rattle.trc_answers.specs.declared.causes.Device.TheVariants.{Files}
use Rattle.trc_answers.specs.declared.causes.Cause.{Cause}
use Rattle.trc_answers.specs.declared.causes.Cause.TheVariants.{NoSuchFile, ReadFault, Memory}

-- what a file has: these bytes, or more than notes may have
abbrev pub IsContent : Option (Vec ℕ Global) → List ℕ → Type 0
IsContent (Some read) bytes = (read.items ≡ bytes) × (length bytes ≤ most_bytes)
IsContent None bytes = most_bytes < length bytes

abbrev pub IsShort : Option (Vec ℕ Global) → Type 0
IsShort (Some read) = length read.items ≤ most_bytes
IsShort None = Unit {0}

-- the file of this name has some content
pub record AreNotesRead (held : Option Held) (name : List ℕ) (read : Option (Vec ℕ Global)) : Type 0 where
  pub bytes : List ℕ
  pub is : IsHeld held name (Some bytes)
  pub content : IsContent read bytes

-- why it isn't read, between two counts of faults
pub data AreNotesUnread (held : Option Held) (name : List ℕ) (old new : ℕ) (cause : Cause) : Type 0 where
  AreMissing : IsHeld held name None → cause ≡ NoSuchFile 0 → AreNotesUnread held name old new cause
  Failed : Rose old new → cause ≡ ReadFault Files → AreNotesUnread held name old new cause
  LackMemory : cause ≡ Memory → AreNotesUnread held name old new cause

-- a file's number can be one more
abbrev pub IsBelow : Cause → Type 0
IsBelow (NoSuchFile number) = suc number < 2 ^ 32
IsBelow cause = Unit {0}
