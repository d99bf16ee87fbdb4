-- What is read of objects' files, and why it isn't.
use Rattle.std.specs.Prelude.{◌≡◌, ◌≤◌, ℕ, List, All, length, take, Option, Some, None, slice_get}
use Rattle.outside.specs.Counts.{Rose}
use Rattle.outside.specs.Files.{Held}
use Rattle.object_form.specs.declared.object.Object.{Object as Read}
use Rattle.object_form.specs.Objects.{IsObject}
use Rattle.obj_link.specs.Joining.{texts_of}
use Rattle.trc_answers.specs.Verdict.{IsHeld}
use Rattle.note_commands.specs.trc_texts.Texts.{IsTextIn as IsTextOf}
use Rattle.trc_answers.specs.declared.causes.Device.TheVariants.{Files}
use Rattle.trc_answers.specs.declared.causes.Cause.{Cause}
use Rattle.trc_answers.specs.declared.causes.Cause.TheVariants.{NoSuchFile, ReadFault, Memory}
use Rattle.object_commands.specs.Links.{AreHeld, AreObjectsIn, IsFirstBroken, IsNoObject, IsObjectIn}
use Rattle.object_commands.specs.declared.reading.Content.{Content}
use Rattle.object_commands.specs.declared.reading.Content.TheVariants.{Object, Broken}
use Rattle.object_commands.specs.declared.reading.Contents.{Contents}
use Rattle.object_commands.specs.declared.reading.Contents.TheVariants.{Objects, NotObject}

-- what bytes are
abbrev pub IsContent : List ℕ → Content → Type 0
IsContent bytes (Object object) = IsObjectIn bytes object
IsContent bytes (Broken number at) = IsNoObject bytes number at

-- what the bytes of several files are
abbrev pub AreContents : List (List ℕ) → Contents → Type 0
AreContents contents (Objects objects) = AreObjectsIn contents objects.items
AreContents contents (NotObject word number at) = IsFirstBroken contents word number at

-- objects are 1 to 64, and can be read again
pub record AreFewObjects (objects : List Read) : Type 0 where
  pub some : 1 ≤ length objects
  pub few : length objects ≤ 64
  pub each : All IsObject objects

abbrev pub AreFew : Contents → Type 0
AreFew (Objects objects) = AreFewObjects objects.items
AreFew (NotObject word number at) = Unit {0}

-- the text of the object of this number
abbrev pub IsTextIn : Contents → ℕ → List ℕ → Type 0
IsTextIn (Objects objects) number text = IsTextOf (texts_of objects.items) number text
IsTextIn (NotObject word at number) m text = ⊥

-- what a file holds
pub record IsContentHeld (held : Option Held) (name : List ℕ) (content : Content) : Type 0 where
  pub bytes : List ℕ
  pub is_held : IsHeld held name (Some bytes)
  pub is : IsContent bytes content

-- what files hold
pub record AreContentsHeld (held : Option Held) (names : List (List ℕ)) (read : Contents) : Type 0 where
  pub contents : List (List ℕ)
  pub are_held : AreHeld held names contents
  pub are : AreContents contents read

-- why the file of this name, the one of this number, isn't read, between two counts of faults
pub data IsUnreadAt (held : Option Held) (number : ℕ) (name : List ℕ) (old new : ℕ) (cause : Cause) : Type 0 where
  IsMissing : IsHeld held name None → cause ≡ NoSuchFile number → IsUnreadAt held number name old new cause
  Failed : Rose old new → cause ≡ ReadFault Files → IsUnreadAt held number name old new cause
  LacksMemory : cause ≡ Memory → IsUnreadAt held number name old new cause

-- why files aren't read
pub data AreUnread (held : Option Held) (names : List (List ℕ)) (old new : ℕ) (cause : Cause) : Type 0 where
  LackOne : (number : ℕ) (name : List ℕ) (before : List (List ℕ)) → AreHeld held (take number names) before → slice_get names number ≡ Some name
      → IsHeld held name None → cause ≡ NoSuchFile number → AreUnread held names old new cause
  OneFailed : Rose old new → cause ≡ ReadFault Files → AreUnread held names old new cause
  LackMemory : cause ≡ Memory → AreUnread held names old new cause
