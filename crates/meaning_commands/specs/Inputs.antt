-- The input of what is run on it: all of it where it is wanted, and else none.
use Rattle.std.specs.Prelude.{◌≡◌, ◌≤◌, ◌<◌, ℕ, List, [], Bool, true, false, length, Option}
use Rattle.outside.specs.Counts.{Rose}
use Rattle.a64_memory.specs.Memory.{AreBytes}
use Rattle.trc_answers.specs.Verdict.{Verdict, Refuses, IsLeft}
use Rattle.trc_answers.specs.declared.causes.Device.TheVariants.{Input}
use Rattle.trc_answers.specs.declared.causes.Cause.{Cause}
use Rattle.trc_answers.specs.declared.causes.Cause.TheVariants.{InputTooLong, ReadFault, Memory}

-- the most bytes that an input may have
abbrev pub most_input : ℕ
most_input = 1048576

-- no input is wanted; it has some bytes, not too many, or it has too many
pub data InputComesTo (left : Option (List ℕ)) (wanted : Bool) (next : List ℕ → Verdict → Type 0) (verdict : Verdict) : Type 0 where
  WantsNone : wanted ≡ false → next [] verdict → InputComesTo left wanted next verdict
  HasInput : (input : List ℕ) → wanted ≡ true → IsLeft left input → AreBytes input → length input ≤ most_input → next input verdict
      → InputComesTo left wanted next verdict
  HasTooMuch : (input : List ℕ) → wanted ≡ true → IsLeft left input → most_input < length input → verdict ≡ Refuses InputTooLong
      → InputComesTo left wanted next verdict

-- what is told of an input before and after it was read: what is left of it, and its count of faults
pub record InputTold : Type 0 where
  pub left : Option (List ℕ)
  pub faults : ℕ

abbrev pub input_told : Option (List ℕ) → ℕ → InputTold
input_told left faults = record { left = left; faults = faults }

-- these are the bytes: none, where none are wanted, with the input as it was, or all
pub data IsGiven (wanted : Bool) (old new : InputTold) (bytes : List ℕ) : Type 0 where
  WasLeftAlone : wanted ≡ false → bytes ≡ [] → new ≡ old → IsGiven wanted old new bytes
  WasRead : wanted ≡ true → IsLeft old.left bytes → AreBytes bytes → length bytes ≤ most_input → IsGiven wanted old new bytes

-- why they aren't read that are wanted
pub data IsNotGiven (wanted : Bool) (old new : InputTold) (cause : Cause) : Type 0 where
  WasTooLong : (input : List ℕ) → wanted ≡ true → IsLeft old.left input → most_input < length input → cause ≡ InputTooLong → IsNotGiven wanted old new cause
  Failed : wanted ≡ true → Rose old.faults new.faults → cause ≡ ReadFault Input → IsNotGiven wanted old new cause
  LacksMemory : wanted ≡ true → cause ≡ Memory → IsNotGiven wanted old new cause
