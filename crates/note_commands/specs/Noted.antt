-- What texts come to whose image is written with notes.
use Rattle.std.specs.Prelude.{ℕ, List, Option}
use Rattle.outside.specs.Files.{Held}
use Rattle.note_laws.specs.words.alloc_choice.declared.choice.Choice.{Choice}
use Rattle.note_laws.specs.words.source_image.Refusals.{IsRefusalOf}
use Rattle.note_laws.specs.noted_image.Faults.{TellsWithNotes}
use Rattle.note_laws.specs.noted_image.Notes.{IsNotedImageOfTexts}
use Rattle.note_laws.specs.noted_image.declared.noting.NotedImage.{NotedImage}
use Rattle.trc_answers.specs.Verdict.{Verdict, FileComesTo, Renews, WrittenWith}
use Rattle.trc_texts.specs.Texts.{AreRefused}

-- texts are refused as for their image, or behind that for the length of the notes; or the image with its notes comes to something
pub data NotedComeTo (choice : Choice) (next : NotedImage → Verdict → Type 0) (texts : List (List ℕ)) (verdict : Verdict) : Type 0 where
  HaveNoNotes : AreRefused (IsRefusalOf (TellsWithNotes choice) texts) verdict → NotedComeTo choice next texts verdict
  HaveNotes : (made : NotedImage) → IsNotedImageOfTexts choice texts made → next made verdict → NotedComeTo choice next texts verdict

-- the image is written to a file, and then the notes to another
abbrev pub NotesWritten : (out name : List ℕ) → NotedImage → Verdict → Type 0
NotesWritten out name made = WrittenWith out made.image name made.notes.items

-- where these bytes are the image's in version 1
abbrev pub NotesRenewed : (out name bytes : List ℕ) → NotedImage → Verdict → Type 0
NotesRenewed out name bytes made = Renews bytes made.image (NotesWritten out name made)

-- the bytes are those of an older file, which is the next that is read
abbrev pub NotedAnewComeTo : Option Held → Choice → (out name from : List ℕ) (number : ℕ) → List (List ℕ) → Verdict → Type 0
NotedAnewComeTo held choice out name from number texts = FileComesTo held number from (λ bytes. NotedComeTo choice (NotesRenewed out name bytes) texts)
