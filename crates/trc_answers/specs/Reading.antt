-- Files of modules that are read, in their order.
use Rattle.std.specs.Prelude.{◌≡◌, ◌≤◌, ◌<◌, ℕ, List, [], ◌∷◌, length, take, Option, Some, None, slice_get}
use Rattle.outside.specs.Counts.{Rose}
use Rattle.outside.specs.Files.{Held}
use Rattle.trc_answers.specs.Verdict.{Verdict, Refuses, IsHeld, FileComesTo, most_image}
use Rattle.trc_answers.specs.declared.causes.Device.TheVariants.{Files}
use Rattle.trc_answers.specs.declared.causes.Cause.{Cause}
use Rattle.trc_answers.specs.declared.causes.Cause.TheVariants.{NoSuchFile, Limit, ReadFault, Memory}

-- the most bytes of a module's text, and the most modules
abbrev pub most_bytes : ℕ
most_bytes = 1048576

abbrev pub most_modules : ℕ
most_modules = 64

-- a text that is held under the name, and isn't too long
pub record IsRead (held : Option Held) (name text : List ℕ) : Type 0 where
  pub is : IsHeld held name (Some text)
  pub within : length text ≤ most_bytes

-- one for one
abbrev pub AreRead : Option Held → List (List ℕ) → List (List ℕ) → Type 0
AreRead held [] [] = Unit {0}
AreRead held (name ∷ names) (text ∷ texts) = IsRead held name text × AreRead held names texts
AreRead held names texts = ⊥

-- the texts of at most 64 modules
pub record AreTextsOf (held : Option Held) (names texts : List (List ℕ)) : Type 0 where
  pub few : length names ≤ most_modules
  pub read : AreRead held names texts

-- the name of this number, when those before it are read
pub record IsReached (held : Option Held) (names : List (List ℕ)) (number : ℕ) (name : List ℕ) : Type 0 where
  pub few : length names ≤ most_modules
  pub texts : List (List ℕ)
  pub before : AreRead held (take number names) texts
  pub is : slice_get names number ≡ Some name

-- what the files of these names come to: there are too many of them, one isn't there, one is too long, or their texts come to
-- something
pub data FilesComeTo (held : Option Held) (names : List (List ℕ)) (next : List (List ℕ) → Verdict → Type 0) (verdict : Verdict) : Type 0 where
  AreTooMany : most_modules < length names → verdict ≡ Refuses (Limit 56 0) → FilesComeTo held names next verdict
  LacksOne : (number : ℕ) (name : List ℕ) → IsReached held names number name → IsHeld held name None
      → verdict ≡ Refuses (NoSuchFile number) → FilesComeTo held names next verdict
  HasALongOne : (number : ℕ) (name text : List ℕ) → IsReached held names number name → IsHeld held name (Some text)
      → most_bytes < length text → verdict ≡ Refuses (Limit 55 number) → FilesComeTo held names next verdict
  HaveTexts : (texts : List (List ℕ)) → AreTextsOf held names texts → next texts verdict → FilesComeTo held names next verdict

-- no texts come to anything
abbrev pub Nothing : List (List ℕ) → Verdict → Type 0
Nothing texts verdict = ⊥

-- why the file of this name, the one of this number, isn't read, between two counts of faults
pub data IsUnreadAt (held : Option Held) (number : ℕ) (name : List ℕ) (old new : ℕ) (cause : Cause) : Type 0 where
  IsMissing : IsHeld held name None → cause ≡ NoSuchFile number → IsUnreadAt held number name old new cause
  IsTooLong : (text : List ℕ) → IsHeld held name (Some text) → most_bytes < length text → cause ≡ Limit 55 number → IsUnreadAt held number name old new cause
  Failed : Rose old new → cause ≡ ReadFault Files → IsUnreadAt held number name old new cause
  LacksMemory : cause ≡ Memory → IsUnreadAt held number name old new cause

-- the bytes of an image's file, which may be read
pub record IsImageRead (held : Option Held) (name bytes : List ℕ) : Type 0 where
  pub is : IsHeld held name (Some bytes)
  pub within : length bytes ≤ most_image

-- no bytes come to anything
abbrev pub NoBytes : List ℕ → Verdict → Type 0
NoBytes bytes verdict = ⊥

-- why the file of an image isn't read, the one of this number
pub data IsImageUnread (held : Option Held) (number : ℕ) (name : List ℕ) (old new : ℕ) (cause : Cause) : Type 0 where
  IsNoFile : FileComesTo held number name NoBytes (Refuses cause) → IsImageUnread held number name old new cause
  FailedOnce : Rose old new → cause ≡ ReadFault Files → IsImageUnread held number name old new cause
  HasNoMemory : cause ≡ Memory → IsImageUnread held number name old new cause

-- why files aren't read
pub data IsUnread (held : Option Held) (names : List (List ℕ)) (old new : ℕ) (cause : Cause) : Type 0 where
  IsRefused : FilesComeTo held names Nothing (Refuses cause) → IsUnread held names old new cause
  OneFailed : Rose old new → cause ≡ ReadFault Files → IsUnread held names old new cause
  LackMemory : cause ≡ Memory → IsUnread held names old new cause

-- the text of this number
abbrev pub IsTextIn : List (List ℕ) → ℕ → List ℕ → Type 0
IsTextIn texts number text = slice_get texts number ≡ Some text

-- the text that is held under the name of this number
abbrev pub IsTextHeld : Option Held → List (List ℕ) → ℕ → List ℕ → Type 0
IsTextHeld held names number text = (name : List ℕ) × (slice_get names number ≡ Some name) × IsHeld held name (Some text)
