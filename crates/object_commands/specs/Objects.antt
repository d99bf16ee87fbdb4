-- What texts come to of which the last one's object is written.
use Rattle.std.specs.Prelude.{◌≡◌, ◌≤◌, ◌<◌, ℕ, List, length}
use Rattle.note_commands.specs.words.alloc_choice.declared.choice.Choice.{Choice}
use Rattle.note_commands.specs.words.source_image.Refusals.{IsRefusalOfTraces}
use Rattle.object_form.specs.declared.object.Object.{Object}
use Rattle.object_form.specs.Objects.{IsObject, most_bytes, object_bytes}
use Rattle.object_laws.specs.module_object.Objects.{IsObjectOfTexts}
use Rattle.trc_answers.specs.Verdict.{Verdict, Refuses, IsWritten}
use Rattle.trc_answers.specs.declared.causes.Cause.TheVariants as cause
use Rattle.note_commands.specs.trc_texts.Texts.{AreRefused}

-- an object has too many bytes, or it is written to a file, and its bytes are read again as it
pub data IsStored (out : List ℕ) (object : Object) (verdict : Verdict) : Type 0 where
  IsTooLong : most_bytes < length (object_bytes object) → verdict ≡ Refuses (cause.Limit 68 0) → IsStored out object verdict
  IsShort : length (object_bytes object) ≤ most_bytes → IsObject object → IsWritten out (object_bytes object) verdict → IsStored out object verdict

-- texts are refused as for their image, but never for their code; or the last one's object comes to something
pub data ObjectComesTo (choice : Choice) (out : List ℕ) (texts : List (List ℕ)) (verdict : Verdict) : Type 0 where
  HaveNoObject : AreRefused (IsRefusalOfTraces choice texts) verdict → ObjectComesTo choice out texts verdict
  HaveObject : (object : Object) → IsObjectOfTexts choice texts object → IsStored out object verdict → ObjectComesTo choice out texts verdict
