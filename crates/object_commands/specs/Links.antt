-- What files of objects come to that are linked.
use Rattle.std.specs.Prelude.{◌≡◌, ◌≤◌, ◌<◌, ℕ, List, [], ◌∷◌, length, take, Option, Some, None, Err, slice_get}
use Rattle.outside.specs.Files.{Held}
use Rattle.lir_core.specs.declared.places.TraceOut.{TraceOut}
use Rattle.trace_build.specs.declared.builder.Builder.{Builder}
use Rattle.note_commands.specs.words.source_image.Refusals.{IsRefusalOf}
use Rattle.note_commands.specs.planned_image.Plans.{IsPlanOfTexts, TellsOfPlan}
use Rattle.note_commands.specs.planned_image.declared.planning.ProgramPlan.{ProgramPlan}
use Rattle.object_form.specs.declared.object.Object.{Object}
use Rattle.object_form.specs.Objects.{IsObject, most_bytes, object_bytes}
use Rattle.object_form.specs.Faults.{numbered}
use Rattle.object_form.specs.Reading.{object_in}
use Rattle.obj_link.specs.Joining.{other_choice, results_of, texts_of}
use Rattle.obj_link.specs.declared.fault.JoinFault.{JoinFault}
use Rattle.obj_link.specs.declared.fault.JoinFault.TheVariants as join_fault
use Rattle.trc_answers.specs.Verdict.{Verdict, Refuses, IsHeld, Written}
use Rattle.trc_answers.specs.Reading.{most_modules}
use Rattle.trc_answers.specs.declared.causes.Cause.{Cause}
use Rattle.trc_answers.specs.declared.causes.Cause.TheVariants as cause
use Rattle.note_commands.specs.trc_texts.Texts.{AreRefused}
use Rattle.note_commands.specs.Audits.{AuditedComeTo}

---- Files

-- these bytes are held under the names, one for one
abbrev pub AreHeld : Option Held → List (List ℕ) → List (List ℕ) → Type 0
AreHeld held [] [] = Unit {0}
AreHeld held (name ∷ names) (bytes ∷ contents) = IsHeld held name (Some bytes) × AreHeld held names contents
AreHeld held names contents = ⊥

-- bytes are an object's
pub record IsObjectIn (bytes : List ℕ) (object : Object) : Type 0 where
  pub few : length bytes ≤ most_bytes
  pub object_is : IsObject object
  pub is : bytes ≡ object_bytes object

-- one for one
abbrev pub AreObjectsIn : List (List ℕ) → List Object → Type 0
AreObjectsIn [] [] = Unit {0}
AreObjectsIn (bytes ∷ contents) (object ∷ objects) = IsObjectIn bytes object × AreObjectsIn contents objects
AreObjectsIn contents objects = ⊥

-- bytes are too many for an object, or break this rule of its form at this byte
pub data IsNoObject (bytes : List ℕ) (number at : ℕ) : Type 0 where
  IsTooLong : most_bytes < length bytes → number ≡ 84 → at ≡ most_bytes → IsNoObject bytes number at
  BreaksRule : length bytes ≤ most_bytes → numbered (object_in bytes) ≡ Err (number, at) → IsNoObject bytes number at

-- the contents of this number are the first that are no object
pub record IsFirstBroken (contents : List (List ℕ)) (word number at : ℕ) : Type 0 where
  pub objects : List Object
  pub before : AreObjectsIn (take word contents) objects
  pub bytes : List ℕ
  pub there : slice_get contents word ≡ Some bytes
  pub broken : IsNoObject bytes number at

---- Objects

-- texts are refused as for their traces, or results for their plan aren't sound, make too much code, or make an image, which is written
pub data JoinedComeTo (out : List ℕ) (builder : Builder) (regs : ℕ) (texts : List (List ℕ)) (outs : List TraceOut) (verdict : Verdict) : Type 0 where
  HaveNoPlan : AreRefused (IsRefusalOf (TellsOfPlan builder) texts) verdict → JoinedComeTo out builder regs texts outs verdict
  HavePlan : (plan : ProgramPlan) (is : IsPlanOfTexts builder texts plan) → AuditedComeTo builder regs (Written out) is.program plan outs verdict
      → JoinedComeTo out builder regs texts outs verdict

-- the cause of a fault of joining
abbrev pub cause_of_join : JoinFault → Cause
cause_of_join (join_fault.OtherChoice object) = cause.OtherChoice object
cause_of_join join_fault.Memory = cause.Memory

-- one object is of another choice than the first, or all are of its choice, and their texts and results come to something
pub data ObjectsComeTo (out : List ℕ) (objects : List Object) (verdict : Verdict) : Type 0 where
  HasOther : (object : ℕ) → other_choice objects ≡ Some object → verdict ≡ Refuses (cause.OtherChoice object) → ObjectsComeTo out objects verdict
  AreOfOne : (first : Object) (rest : List Object) → objects ≡ first ∷ rest → other_choice objects ≡ None
      → JoinedComeTo out first.builder first.regs (texts_of objects) (results_of objects) verdict → ObjectsComeTo out objects verdict

-- one file's bytes are no object, or all are objects, which come to something
pub data ContentsComeTo (out : List ℕ) (contents : List (List ℕ)) (verdict : Verdict) : Type 0 where
  HaveNoObject : (word number at : ℕ) → IsFirstBroken contents word number at → verdict ≡ Refuses (cause.NotObject word number at)
      → ContentsComeTo out contents verdict
  HaveObjects : (objects : List Object) → AreObjectsIn contents objects → ObjectsComeTo out objects verdict → ContentsComeTo out contents verdict

-- the objects are too many; one file isn't there; or all are, and their bytes come to something
pub data LinkComesTo (held : Option Held) (out : List ℕ) (names : List (List ℕ)) (verdict : Verdict) : Type 0 where
  AreTooMany : most_modules < length names → verdict ≡ Refuses (cause.Limit 56 0) → LinkComesTo held out names verdict
  LacksOne : (number : ℕ) (name : List ℕ) (before : List (List ℕ)) → length names ≤ most_modules → AreHeld held (take number names) before
      → slice_get names number ≡ Some name → IsHeld held name None → verdict ≡ Refuses (cause.NoSuchFile number) → LinkComesTo held out names verdict
  HaveContents : (contents : List (List ℕ)) → length names ≤ most_modules → AreHeld held names contents → ContentsComeTo out contents verdict
      → LinkComesTo held out names verdict

---- Texts

-- the text of the object that is held under the name of this number
pub record IsTextOfObject (held : Option Held) (names : List (List ℕ)) (number : ℕ) (text : List ℕ) : Type 0 where
  pub name : List ℕ
  pub there : slice_get names number ≡ Some name
  pub bytes : List ℕ
  pub is_held : IsHeld held name (Some bytes)
  pub object : Object
  pub is : IsObjectIn bytes object
  pub source : object.source ≡ text
