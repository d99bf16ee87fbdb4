-- What each command comes to when nothing fails.
use Rattle.std.specs.Prelude.{◌≡◌, ℕ, List, [], ◌∷◌, ◌++◌, length, decimal, Option, Some, None, codes, option_to_list}
use Rattle.outside.specs.Files.{Held}
use Rattle.run_laws.specs.Runs.{Outcome, Ended}
use Rattle.a64_machine.specs.State.{Trap}
use Rattle.object_commands.specs.words.alloc_choice.declared.choice.Choice.{Choice}
use Rattle.object_commands.specs.words.program_image.declared.imaging.Compiled.{Compiled}
use Rattle.bulk_text.specs.Bulk.{bulk_text}
use Rattle.batch_jobs.specs.Batches.{BatchComesTo}
use Rattle.explanations.specs.Explained.{explanation}
use Rattle.module_check.specs.Checks.{CheckComesTo}
use Rattle.compare_commands.specs.meaning_commands.Meanings.{MeanComeTo}
use Rattle.compare_commands.specs.meaning_commands.Comparisons.{BothComeTo}
use Rattle.compare_commands.specs.Compares.{ComparesComeTo}
use Rattle.show_commands.specs.Shows.{ShowComesTo}
use Rattle.object_commands.specs.note_commands.Audits.{AuditComesTo, audit_of}
use Rattle.object_commands.specs.note_commands.Noted.{NotedAnewComeTo, NotedComeTo, NotesWritten}
use Rattle.object_commands.specs.Objects.{ObjectComesTo}
use Rattle.object_commands.specs.Links.{IsTextOfObject, LinkComesTo}
use Rattle.word_requests.specs.Asked.{Asked, Run, Build, Elf, Exec, Traces, Bulk, Audit, Object, Link, Mean, Both, Batch, Check, Explain, Compare, Show, Help}
use Rattle.trc_answers.specs.declared.causes.Cause.{Cause}
use Rattle.trc_answers.specs.declared.causes.Cause.TheVariants as cause
use Rattle.trc_answers.specs.Answers.{Devices, InputStays}
use Rattle.trc_answers.specs.Reading.{FilesComeTo}
use Rattle.trc_answers.specs.Runs.{run_of, cause_of_run}
use Rattle.trc_answers.specs.Verdict.{Verdict, Refuses, Prints, World, FileComesTo, ImageComesTo, BytesComeTo, Written, WrittenElf, Renews}
pub use Rattle.object_commands.specs.trc_texts.Texts.{cause_of_refusal, NamesText, IsRefusedAs, AreRefused, TextsComeTo, HaveNoImage, HaveImage, TracesComeTo, HaveNoTraces, HaveTraces, IsTextIn, IsTextHeld}
use Rattle.trc_cli.specs.declared.bulk.Counts.{Counts}

---- Made modules

abbrev pub counts_of : Compiled → Counts
counts_of made = record { procedures = made.procedures; traces = made.traces; words = length made.image.code }

-- the line of a count
abbrev pub count_line : List ℕ → ℕ → List ℕ
count_line name number = name ++ (decimal number ++ 10 ∷ [])

abbrev pub counts_text : Counts → List ℕ
counts_text counts = count_line (codes "procedures ") counts.procedures ++ (count_line (codes "traces ") counts.traces ++ count_line (codes "words ") counts.words)

-- with what the module wrote
abbrev pub summary_of : Counts → List ℕ → List ℕ
summary_of counts written = counts_text counts ++ (codes "output " ++ written)

-- a run that ends is told; of any other there is the cause alone
abbrev pub told_of_run : Compiled → Outcome Trap → Verdict
told_of_run made (Ended written) = Prints (summary_of (counts_of made) written)
told_of_run made outcome = Refuses (cause_of_run made.image.places outcome)

-- an image is run on no input, and what came of it is told
abbrev pub SummaryComesTo : ℕ → Compiled → Verdict → Type 0
SummaryComesTo steps made verdict = verdict ≡ told_of_run made (run_of made.image [] steps)

---- Commands

-- the lines of help
abbrev pub help_lines : List ℕ
help_lines = codes "trc run|build|elf|traces|exec|bulk|audit|object|link|mean|both|batch|help" ++ (10 ∷ (codes "--policy --traces --regs --jobs --steps --from --notes --turns" ++ 10 ∷ []))

-- an image is built anew from that of an older file, which is the next that is read
abbrev pub AnewComesTo : Option Held → Choice → (out from : List ℕ) (number : ℕ) → List (List ℕ) → Verdict → Type 0
AnewComesTo held choice out from number texts = FileComesTo held number from (λ bytes. TextsComeTo choice (λ made. Renews bytes made.image (Written out made.image)) texts)

-- what each command comes to
abbrev pub RequestComesTo : World → Asked → Verdict → Type 0
RequestComesTo world (Run files choice steps) = FilesComeTo world.held files (TextsComeTo choice (λ made. ImageComesTo world.left steps made.image))
RequestComesTo world (Build out files choice None None) = FilesComeTo world.held files (TextsComeTo choice (λ made. Written out made.image))
RequestComesTo world (Build out files choice (Some from) None) = FilesComeTo world.held files (AnewComesTo world.held choice out from (length files))
RequestComesTo world (Build out files choice None (Some notes)) = FilesComeTo world.held files (NotedComeTo choice (NotesWritten out notes))
RequestComesTo world (Build out files choice (Some from) (Some notes)) = FilesComeTo world.held files (NotedAnewComeTo world.held choice out notes from (length files))
RequestComesTo world (Elf out files choice) = FilesComeTo world.held files (TextsComeTo choice (λ made. WrittenElf out made.image))
RequestComesTo world (Exec image steps) = FileComesTo world.held 0 image (BytesComeTo world.left steps)
RequestComesTo world (Traces files choice) = FilesComeTo world.held files (TracesComeTo choice)
RequestComesTo world (Bulk seed size choice steps) = TextsComeTo choice (SummaryComesTo steps) (bulk_text seed size ∷ [])
RequestComesTo world (Audit out notes files builder regs) = AuditComesTo world.held (audit_of out builder regs) notes files
RequestComesTo world (Object out files choice) = FilesComeTo world.held files (ObjectComesTo choice out)
RequestComesTo world (Link out objects) = LinkComesTo world.held out objects
RequestComesTo world (Mean files turns) = FilesComeTo world.held files (MeanComeTo world.left turns)
RequestComesTo world (Both files choice steps turns) = FilesComeTo world.held files (BothComeTo world.left choice steps turns)
RequestComesTo world (Batch list choice steps) = BatchComesTo world.held choice steps list
RequestComesTo world (Check files format) = FilesComeTo world.held files (CheckComesTo format files)
RequestComesTo world (Explain topic) = λ verdict. verdict ≡ Prints (explanation topic)
RequestComesTo world (Compare files jobs steps) = FilesComeTo world.held files (ComparesComeTo world.left jobs steps)
RequestComesTo world (Show out files choice against) = FilesComeTo world.held files (ShowComesTo choice against out files)
RequestComesTo world Help = λ verdict. verdict ≡ Prints help_lines

-- what words come to that ask for this, or for nothing
abbrev pub ComesTo : World → Option Asked → Verdict → Type 0
ComesTo world None verdict = verdict ≡ Refuses cause.Usage
ComesTo world (Some request) verdict = RequestComesTo world request verdict

-- only what runs an image or does what modules mean reads the input; a made module reads none
abbrev pub InputUse : Option Asked → Devices → Devices → Type 0
InputUse (Some (Run files choice steps)) old new = Unit {0}
InputUse (Some (Exec image steps)) old new = Unit {0}
InputUse (Some (Mean files turns)) old new = Unit {0}
InputUse (Some (Both files choice steps turns)) old new = Unit {0}
InputUse (Some (Compare files jobs steps)) old new = Unit {0}
InputUse other old new = InputStays old new

-- the files are as they were
pub record FilesStay (old new : Devices) : Type 0 where
  pub held : new.held ≡ old.held
  pub faults : new.files_faults ≡ old.files_faults

-- words that ask for no files touch none
abbrev pub FilesUse : Option Asked → Devices → Devices → Type 0
FilesUse None old new = FilesStay old new
FilesUse (Some (Bulk seed size choice steps)) old new = FilesStay old new
FilesUse (Some (Explain topic)) old new = FilesStay old new
FilesUse (Some Help) old new = FilesStay old new
FilesUse other old new = Unit {0}

-- the machine came to no fault
abbrev pub IsNoMachineFault : Cause → Type 0
IsNoMachineFault (cause.MachineFault fault) = ⊥
IsNoMachineFault other = Unit {0}

-- only the machine that runs an image of a file may come to one
abbrev pub FaultsOnlyInExec : Option Asked → Cause → Type 0
FaultsOnlyInExec (Some (Exec image steps)) cause = Unit {0}
FaultsOnlyInExec other cause = IsNoMachineFault cause

---- Names and texts

-- the names of the files that a command reads, in the order of reading
abbrev pub names_read : Option Asked → List (List ℕ)
names_read None = []
names_read (Some (Run files choice steps)) = files
names_read (Some (Build out files choice from notes)) = files ++ option_to_list from
names_read (Some (Elf out files choice)) = files
names_read (Some (Exec image steps)) = image ∷ []
names_read (Some (Traces files choice)) = files
names_read (Some (Bulk seed size choice steps)) = []
names_read (Some (Audit out notes files builder regs)) = notes ∷ files
names_read (Some (Object out files choice)) = files
names_read (Some (Link out objects)) = objects
names_read (Some (Mean files turns)) = files
names_read (Some (Both files choice steps turns)) = files
names_read (Some (Batch list choice steps)) = list ∷ []
names_read (Some (Check files format)) = files
names_read (Some (Explain topic)) = []
names_read (Some (Compare files jobs steps)) = files
names_read (Some (Show out files choice against)) = files
names_read (Some Help) = []

-- the number of the first module's name among these
abbrev pub first_module : Option Asked → ℕ
first_module (Some (Audit out notes files builder regs)) = 1
first_module other = 0

-- the text of the module of this number: the one that is made, the one that is held, or the one in the object that is held
abbrev pub IsTextOf : Option Held → Option Asked → ℕ → List ℕ → Type 0
IsTextOf held (Some (Build out files choice from notes)) = IsTextHeld held files
IsTextOf held (Some (Audit out notes files builder regs)) = IsTextHeld held files
IsTextOf held (Some (Link out objects)) = IsTextOfObject held objects
IsTextOf held (Some (Bulk seed size choice steps)) = IsTextIn (bulk_text seed size ∷ [])
IsTextOf held asked = IsTextHeld held (names_read asked)
