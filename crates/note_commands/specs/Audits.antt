-- What an audit of notes comes to when nothing fails.
use Rattle.std.specs.Prelude.{◌≡◌, ◌≤◌, ◌<◌, ◌^◌, ℕ, suc, Bool, List, length, map, Option, Some, None, Err}
use Rattle.outside.specs.Files.{Held}
use Rattle.image_form.specs.declared.image.Image.{Image}
use Rattle.image_form.specs.Form.{IsInForm}
use Rattle.image_file.specs.Spelling.{IsOfWords}
use Rattle.ob_types.specs.declared.program.Program.{Program}
use Rattle.lir_core.specs.declared.places.TraceOut.{TraceOut}
use Rattle.trace_build.specs.declared.builder.Builder.{Builder}
use Rattle.alloc_audit.specs.Results.{AreLive}
use Rattle.alloc_audit.specs.declared.verdict.Verdict.{Verdict as Finding}
use Rattle.alloc_audit.specs.declared.verdict.Verdict.TheVariants as finding
use Rattle.note_laws.specs.words.back_end.Images.{code_length}
use Rattle.note_laws.specs.words.source_image.Refusals.{IsRefusalOf}
use Rattle.note_laws.specs.placed_image.Shares.{cuts_of}
use Rattle.note_laws.specs.planned_image.Plans.{IsPlanOfTexts, TellsOfPlan}
use Rattle.note_laws.specs.planned_image.Audits.{IsImageOfResults, verdict_on}
use Rattle.note_laws.specs.planned_image.declared.planning.ProgramPlan.{ProgramPlan}
use Rattle.note_laws.specs.planned_image.declared.fault.AuditFault.{AuditFault}
use Rattle.note_laws.specs.planned_image.declared.fault.AuditFault.TheVariants as audit_fault
use Rattle.trace_notes.specs.Notes.{AreNotes, most_bytes, notes, notes_in, numbered}
use Rattle.trace_notes.specs.declared.fault.NoteFault.{NoteFault}
use Rattle.trace_notes.specs.declared.fault.NoteFault.TheVariants as note_fault
use Rattle.trc_answers.specs.Verdict.{Verdict, Refuses, Accepted, IsHeld}
use Rattle.trc_answers.specs.Reading.{AreTextsOf, FilesComeTo, Nothing, most_modules}
use Rattle.trc_answers.specs.declared.causes.Cause.{Cause}
use Rattle.trc_answers.specs.declared.causes.Cause.TheVariants as cause
use Rattle.trc_texts.specs.Texts.{AreRefused}

-- what results are audited for: the file of the image, and the builder and the number of registers of the traces
pub record AuditOf : Type 0 where
  pub out : List ℕ
  pub builder : Builder
  pub regs : ℕ

abbrev pub audit_of : List ℕ → Builder → ℕ → AuditOf
audit_of out builder regs = record { out = out; builder = builder; regs = regs }

-- this is found of results, by whatever says what is live in the plan's flows
abbrev pub IsFound : ℕ → ProgramPlan → List TraceOut → Finding → Type 0
IsFound regs plan outs found = (lives : List (ℕ → ℕ → Bool)) → AreLive plan.flows.items lives → verdict_on regs plan lives outs ≡ found

-- they are sound, and make more words of code than an image may have
abbrev pub MakesMuchCode : ℕ → ProgramPlan → List TraceOut → Type 0
MakesMuchCode regs plan outs = (lives : List (ℕ → ℕ → Bool)) → AreLive plan.flows.items lives
    → (verdict_on regs plan lives outs ≡ finding.Sound) × (2 ^ 18 < code_length (cuts_of plan.flows.items (map (λ v. v.items) plan.cuts.items) outs))

-- the cause of a fault of an audit
abbrev pub cause_of_audit : AuditFault → Cause
cause_of_audit (audit_fault.Unsound trace node line) = cause.Unsound trace node line
cause_of_audit audit_fault.Code = cause.Limit 54 0
cause_of_audit audit_fault.Memory = cause.Memory

-- the cause of a fault of notes
abbrev pub cause_of_notes : NoteFault → Cause
cause_of_notes (note_fault.Fault number at) = cause.NotNotes number at
cause_of_notes note_fault.Limit = cause.Limit 67 0
cause_of_notes note_fault.Memory = cause.Memory

-- results for a plan's traces aren't sound, make too much code, or make an image, which comes to something
pub data AuditedComeTo (builder : Builder) (regs : ℕ) (next : Image → Verdict → Type 0) (program : Program) (plan : ProgramPlan) (outs : List TraceOut) (verdict : Verdict) : Type 0 where
  AreUnsound : (trace node line : ℕ) → IsFound regs plan outs (finding.Unsound trace node line) → verdict ≡ Refuses (cause.Unsound trace node line)
      → AuditedComeTo builder regs next program plan outs verdict
  MakeMuchCode : MakesMuchCode regs plan outs → verdict ≡ Refuses (cause.Limit 54 0) → AuditedComeTo builder regs next program plan outs verdict
  MakeAnImage : (image : Image) → IsImageOfResults builder regs program outs image → IsInForm image → IsOfWords image → next image verdict
      → AuditedComeTo builder regs next program plan outs verdict

-- the image is accepted
abbrev pub ResultsComeTo : AuditOf → Program → ProgramPlan → List TraceOut → Verdict → Type 0
ResultsComeTo of program plan outs verdict = AuditedComeTo of.builder of.regs (Accepted of.out) program plan outs verdict

-- bytes are too many for notes, break a rule, or are the notes of results, which come to something
pub data NotesComeTo (bytes : List ℕ) (next : List TraceOut → Verdict → Type 0) (verdict : Verdict) : Type 0 where
  AreTooLong : most_bytes < length bytes → verdict ≡ Refuses (cause.NotNotes 74 most_bytes) → NotesComeTo bytes next verdict
  AreNoNotes : (number at : ℕ) → length bytes ≤ most_bytes → numbered (notes_in bytes) ≡ Err (number, at) → verdict ≡ Refuses (cause.NotNotes number at)
      → NotesComeTo bytes next verdict
  HaveResults : (outs : List TraceOut) → length bytes ≤ most_bytes → AreNotes outs → bytes ≡ notes outs → next outs verdict → NotesComeTo bytes next verdict

-- texts are refused as for their traces by the builder, or their plan and the notes come to something
pub data PlanComesTo (of : AuditOf) (bytes : List ℕ) (texts : List (List ℕ)) (verdict : Verdict) : Type 0 where
  HaveNoPlan : AreRefused (IsRefusalOf (TellsOfPlan of.builder) texts) verdict → PlanComesTo of bytes texts verdict
  HavePlan : (plan : ProgramPlan) (is : IsPlanOfTexts of.builder texts plan) → NotesComeTo bytes (ResultsComeTo of is.program plan) verdict
      → PlanComesTo of bytes texts verdict

-- a file's number where another file stands before it
abbrev pub one_behind : Cause → Cause
one_behind (cause.NoSuchFile number) = cause.NoSuchFile (suc number)
one_behind cause = cause

-- the modules are too many; the file of the notes isn't there, or one of the modules', whose numbers are behind its; or the texts come
-- to something
pub data AuditComesTo (held : Option Held) (of : AuditOf) (name : List ℕ) (files : List (List ℕ)) (verdict : Verdict) : Type 0 where
  AreTooMany : most_modules < length files → verdict ≡ Refuses (cause.Limit 56 0) → AuditComesTo held of name files verdict
  LacksNotes : length files ≤ most_modules → IsHeld held name None → verdict ≡ Refuses (cause.NoSuchFile 0) → AuditComesTo held of name files verdict
  LacksTexts : (bytes : List ℕ) (c : Cause) → length files ≤ most_modules → IsHeld held name (Some bytes) → FilesComeTo held files Nothing (Refuses c)
      → verdict ≡ Refuses (one_behind c) → AuditComesTo held of name files verdict
  HasTexts : (bytes : List ℕ) (texts : List (List ℕ)) → IsHeld held name (Some bytes) → AreTextsOf held files texts → PlanComesTo of bytes texts verdict
      → AuditComesTo held of name files verdict
