-- From parts of the commands of notes to the whole.
use Rattle.std.proofs.Common.{◌≡◌, ◌≤◌, ◌<◌, ℕ, Bool, List, length, map, Option, Some, None, Ok, Err, Vec, Global, refl, sym, ap, ◌∙◌, subst, arith}
use Rattle.std.specs.Borrow.{Bor}
use Rattle.std.proofs.lemmas.List.{length-map}
use Rattle.std.proofs.lemmas.Option.{slice_get_within}
use Rattle.outside.specs.Files.{Held, ToldOfRead}
use Rattle.outside.specs.declared.files.GetFault.TheVariants as get
use Rattle.outside.specs.Sink.{Account}
use Rattle.image_form.specs.declared.image.Image.{Image}
use Rattle.trace_build.specs.declared.builder.Builder.{Builder}
use Rattle.note_laws.specs.words.alloc_choice.declared.choice.Choice.{Choice}
use Rattle.note_laws.specs.words.source_image.Refusals.{IsRefusalOf}
use Rattle.note_laws.specs.noted_image.Faults.{TellsWithNotes}
use Rattle.note_laws.specs.noted_image.Notes.{IsNotedImageOfTexts}
use Rattle.note_laws.specs.noted_image.declared.noting.NotedImage.{NotedImage}
use Rattle.note_laws.specs.planned_image.Plans.{IsPlanOfTexts, TellsOfPlan}
use Rattle.note_laws.specs.planned_image.declared.planning.ProgramPlan.{ProgramPlan}
use Rattle.note_laws.specs.planned_image.declared.fault.AuditFault.{AuditFault}
use Rattle.note_laws.specs.planned_image.declared.fault.AuditFault.TheVariants as audit_fault
use Rattle.note_laws.specs.planned_image.Audits.{TellsOfAudit}
use Rattle.trace_notes.specs.Notes.{Tells, most_bytes, notes_in}
use Rattle.trace_notes.specs.declared.fault.NoteFault.{NoteFault}
use Rattle.trace_notes.specs.declared.fault.NoteFault.TheVariants as note_fault
use Rattle.ob_types.specs.declared.program.Program.{Program}
use Rattle.lir_core.specs.declared.places.TraceOut.{TraceOut}
use Rattle.alloc_audit.specs.Results.{AreLive}
use Rattle.trc_answers.specs.Verdict.{Verdict, Refuses, IsHeld}
use Rattle.trc_answers.specs.Reading.{AreTextsOf, AreTooMany as AreTooManyFiles, LacksOne, HasALongOne, HaveTexts, IsUnread, IsRefused, OneFailed, LackMemory as LackMemoryForTexts}
use Rattle.trc_answers.specs.Answers.{Devices, devices, Answers}
use Rattle.trc_answers.specs.declared.causes.Cause.{Cause}
use Rattle.trc_answers.specs.declared.causes.Cause.TheVariants as cause
use Rattle.trc_answers.proofs.Answering.{refuses, lacks, files_failed, mapped, later, held_bytes, long_bytes}
use Rattle.trc_texts.specs.Texts.{IsRefusedAs}
use Rattle.trc_texts.proofs.Refusing.{refused}
use Rattle.note_commands.specs.Noted.{NotedComeTo, HaveNoNotes, HaveNotes}
use Rattle.note_commands.specs.Audits.{AuditOf, cause_of_audit, cause_of_notes, AuditedComeTo, NotesComeTo, AreNoNotes, ResultsComeTo, AreUnsound, MakeMuchCode, PlanComesTo, HaveNoPlan, HavePlan, AuditComesTo, LacksNotes, LacksTexts, HasTexts, one_behind}
use Rattle.note_commands.specs.Reading.{AreNotesRead, AreNotesUnread, AreMissing, Failed, LackMemory, IsBelow}

---- Names

-- names that are lent, as many as there are
lent_many : (names : List (Bor (List ℕ))) → length (map (λ name. name.now) names) ≡ length names
lent_many names = length-map names (λ name. name.now)

pub few_names : (names : List (Bor (List ℕ))) → length names ≤ 64 → length (map (λ name. name.now) names) ≤ 64
few_names names few = let same = lent_many names in omega (arith, same, few)

pub many_names : (names : List (Bor (List ℕ))) → 64 < length names → 64 < length (map (λ name. name.now) names)
many_names names many = let same = lent_many names in omega (arith, same, many)

---- Notes that are written

-- texts have an image with notes, which comes to something
pub has_notes : (choice : Choice) (texts : List (List ℕ)) (next : NotedImage → Verdict → Type 0) (made : NotedImage) (old new : Devices) (cause : Cause) → IsNotedImageOfTexts choice texts made
    → Answers (λ _. next made) old new cause → Answers (λ _. NotedComeTo choice next texts) old new cause
has_notes choice texts next made old new cause is answers = mapped (λ _. next made) (λ _. NotedComeTo choice next texts) old new cause (λ _ v it. HaveNotes made is it) answers

-- or have none
pub no_notes : (choice : Choice) (texts : List (List ℕ)) (next : NotedImage → Verdict → Type 0) (cause : Cause) → IsRefusedAs (IsRefusalOf (TellsWithNotes choice) texts) cause
    → (held : Option Held) (m : ℕ) (left : Option (List ℕ)) (k : ℕ) (out : Account) → Answers (λ _. NotedComeTo choice next texts) (devices held m left k out) (devices held m left k out) cause
no_notes choice texts next cause h = refused (IsRefusalOf (TellsWithNotes choice) texts) (λ _. NotedComeTo choice next texts) (λ _ v r. HaveNoNotes r) cause h

-- the bytes of the notes are those that were written
pub notes_written : (choice : Choice) (texts : List (List ℕ)) (next : List ℕ → NotedImage → Verdict → Type 0) (made : NotedImage) (slice : List ℕ) (old new : Devices) (cause : Cause)
    → IsNotedImageOfTexts choice texts made → slice ≡ made.notes.items → Answers (λ _. next slice made) old new cause → Answers (λ _. NotedComeTo choice (λ m. next m.notes.items m) texts) old new cause
notes_written choice texts next made slice old new cause is same answers =
    has_notes choice texts (λ m. next m.notes.items m) made old new cause is (subst (λ xs. Answers (λ _. next xs made) old new cause) same answers)

---- Texts that are planned

pub has_plan : (of : AuditOf) (bytes : List ℕ) (texts : List (List ℕ)) (plan : ProgramPlan) (is : IsPlanOfTexts of.builder texts plan) (old new : Devices) (cause : Cause)
    → Answers (λ _. NotesComeTo bytes (ResultsComeTo of is.program plan)) old new cause → Answers (λ _. PlanComesTo of bytes texts) old new cause
has_plan of bytes texts plan is old new cause answers =
    mapped (λ _. NotesComeTo bytes (ResultsComeTo of is.program plan)) (λ _. PlanComesTo of bytes texts) old new cause (λ _ v it. HavePlan plan is it) answers

pub no_plan : (of : AuditOf) (bytes : List ℕ) (texts : List (List ℕ)) (cause : Cause) → IsRefusedAs (IsRefusalOf (TellsOfPlan of.builder) texts) cause
    → (held : Option Held) (m : ℕ) (left : Option (List ℕ)) (k : ℕ) (out : Account) → Answers (λ _. PlanComesTo of bytes texts) (devices held m left k out) (devices held m left k out) cause
no_plan of bytes texts cause h = refused (IsRefusalOf (TellsOfPlan of.builder) texts) (λ _. PlanComesTo of bytes texts) (λ _ v r. HaveNoPlan r) cause h

---- Results and notes

-- results make no image
module _ (builder : Builder) (regs : ℕ) (next : Image → Verdict → Type 0) (program : Program) (plan : ProgramPlan) (outs : List TraceOut) where
  abbrev Audited : Option (List ℕ) → Verdict → Type 0
  Audited _ verdict = AuditedComeTo builder regs next program plan outs verdict

  pub not_accepted : (fault : AuditFault) (c : Cause) → c ≡ cause_of_audit fault → ((lives : List (ℕ → ℕ → Bool)) → AreLive plan.flows.items lives → TellsOfAudit regs plan lives outs fault)
      → (held : Option Held) (m : ℕ) (left : Option (List ℕ)) (k : ℕ) (out : Account) → Answers Audited (devices held m left k out) (devices held m left k out) c
  not_accepted (audit_fault.Unsound trace node line) c is told held m left k out = refuses Audited held held m m left k out c refl (AreUnsound trace node line told (ap Refuses is))
  not_accepted audit_fault.Code c is told held m left k out = refuses Audited held held m m left k out c refl (MakeMuchCode told (ap Refuses is))
  not_accepted audit_fault.Memory c is told held m left k out = lacks Audited held held m m left k out c is refl

-- bytes aren't taken for notes
pub not_taken : (bytes : List ℕ) (next : List TraceOut → Verdict → Type 0) (fault : NoteFault) (c : Cause) → c ≡ cause_of_notes fault → length bytes ≤ most_bytes → Tells (Err fault) (notes_in bytes)
    → (held : Option Held) (m : ℕ) (left : Option (List ℕ)) (k : ℕ) (out : Account) → Answers (λ _. NotesComeTo bytes next) (devices held m left k out) (devices held m left k out) c
not_taken bytes next (note_fault.Fault number at) c is few told held m left k out =
    refuses (λ _. NotesComeTo bytes next) held held m m left k out c refl (AreNoNotes number at few told (ap Refuses is))
not_taken bytes next note_fault.Limit c is few told held m left k out = absurd told
not_taken bytes next note_fault.Memory c is few told held m left k out = lacks (λ _. NotesComeTo bytes next) held held m m left k out c is refl

-- a file's content is what was read of it
pub same_content : (next : List TraceOut → Verdict → Type 0) (slice read bytes : List ℕ) (old new : Devices) (c : Cause) → slice ≡ read → read ≡ bytes
    → Answers (λ _. NotesComeTo slice next) old new c → Answers (λ _. NotesComeTo bytes next) old new c
same_content next slice read bytes old new c is also answers = subst (λ xs. Answers (λ _. NotesComeTo xs next) old new c) (is ∙ also) answers

---- Files

-- the notes were read, or more than notes may have
pub notes_read : (held : Option Held) (name : List ℕ) (bytes : Vec ℕ Global) → ToldOfRead held name 67108864 (Ok bytes) → length bytes.items ≤ 67108864 → AreNotesRead held name (Some bytes)
notes_read held name bytes told few = record { bytes = bytes.items; is = held_bytes held name 67108864 bytes told; content = (refl, few) }

pub long_notes : (held : Option Held) (name : List ℕ) → ToldOfRead held name 67108864 (Err get.TooLong) → AreNotesRead held name None
long_notes held name told = let long = long_bytes held name 67108864 told in record { bytes = long.0; is = long.1; content = long.2 }

pub no_file : (held : Option Held) (name : List ℕ) (m n : ℕ) → ToldOfRead held name 67108864 (Err get.NoSuchFile) → AreNotesUnread held name m n (cause.NoSuchFile 0)
no_file None name m n told = AreMissing tt refl
no_file (Some h) name m n told = AreMissing told refl

pub unread_notes : (held mid : Option Held) (of : AuditOf) (name : List ℕ) (files : List (List ℕ)) (m n : ℕ) (c : Cause) → mid ≡ held → length files ≤ 64 → AreNotesUnread held name m n c
    → (left : Option (List ℕ)) (k : ℕ) (out : Account) → Answers (λ _. AuditComesTo held of name files) (devices held m left k out) (devices mid n left k out) c
unread_notes held mid of name files m n c same few (AreMissing none is) left k out =
    refuses (λ _. AuditComesTo held of name files) held mid m n left k out c same (LacksNotes few none (ap Refuses is))
unread_notes held mid of name files m n c same few (Failed rose is) left k out =
    subst (Answers (λ _. AuditComesTo held of name files) (devices held m left k out) (devices mid n left k out)) (sym is) (files_failed (λ _. AuditComesTo held of name files) held mid m n left k out same rose)
unread_notes held mid of name files m n c same few (LackMemory is) left k out = lacks (λ _. AuditComesTo held of name files) held mid m n left k out c is same

-- the modules weren't read
plain_cause : (c d : Cause) → c ≡ d → IsBelow d → IsBelow c
plain_cause c d e h = subst IsBelow (sym e) h

refuses_same : (c d : Cause) → Refuses c ≡ Refuses d → c ≡ d
refuses_same c d e = cc

pub below : (held : Option Held) (names : List (List ℕ)) (m n : ℕ) (c : Cause) → length names ≤ 64 → IsUnread held names m n c → IsBelow c
below held names m n c few (IsRefused (AreTooManyFiles many e)) = plain_cause c (cause.Limit 56 0) (refuses_same c _ e) tt
below held names m n c few (IsRefused (LacksOne number name reached none e)) =
    let l = slice_get_within names number name reached.is in
    plain_cause c (cause.NoSuchFile number) (refuses_same c _ e) (omega (arith, l, few))
below held names m n c few (IsRefused (HasALongOne number name text reached is long e)) = plain_cause c (cause.Limit 55 number) (refuses_same c _ e) tt
below held names m n c few (IsRefused (HaveTexts texts are none)) = absurd none
below held names m n c few (OneFailed rose e) = plain_cause c _ e tt
below held names m n c few (LackMemoryForTexts e) = plain_cause c _ e tt

one_behind_as : (c d : Cause) → c ≡ d → one_behind d ≡ d → one_behind c ≡ d
one_behind_as c d e h = ap one_behind e ∙ h

pub unread_behind : (held mid : Option Held) (of : AuditOf) (name bytes : List ℕ) (files : List (List ℕ)) (m n : ℕ) (c shown : Cause) → mid ≡ held → length files ≤ 64 → IsHeld held name (Some bytes) → IsUnread held files m n c
    → shown ≡ one_behind c → (left : Option (List ℕ)) (k : ℕ) (out : Account) → Answers (λ _. AuditComesTo held of name files) (devices held m left k out) (devices mid n left k out) shown
unread_behind held mid of name bytes files m n c shown same few there (IsRefused comes) is left k out =
    refuses (λ _. AuditComesTo held of name files) held mid m n left k out shown same (LacksTexts bytes c few there comes (ap Refuses is))
unread_behind held mid of name bytes files m n c shown same few there (OneFailed rose e) is left k out =
    subst (Answers (λ _. AuditComesTo held of name files) (devices held m left k out) (devices mid n left k out)) (sym (is ∙ one_behind_as c _ e refl)) (files_failed (λ _. AuditComesTo held of name files) held mid m n left k out same rose)
unread_behind held mid of name bytes files m n c shown same few there (LackMemoryForTexts e) is left k out =
    lacks (λ _. AuditComesTo held of name files) held mid m n left k out shown (is ∙ one_behind_as c _ e refl) same

-- the modules were read
pub reads_behind : (held mid : Option Held) (of : AuditOf) (name bytes : List ℕ) (files texts : List (List ℕ)) (m n : ℕ) → mid ≡ held → IsHeld held name (Some bytes) → AreTextsOf held files texts → m ≤ n
    → (left : Option (List ℕ)) (k : ℕ) (out : Account) (new : Devices) (c : Cause) → Answers (λ _. PlanComesTo of bytes texts) (devices mid n left k out) new c
    → Answers (λ _. AuditComesTo held of name files) (devices held m left k out) new c
reads_behind held mid of name bytes files texts m n same there are l left k out new c answers =
    later (λ _. AuditComesTo held of name files) held m n left k out new c l
    (mapped (λ _. PlanComesTo of bytes texts) (λ _. AuditComesTo held of name files) (devices held n left k out) new c (λ _ v it. HasTexts bytes texts there are it)
    (subst (λ h. Answers (λ _. PlanComesTo of bytes texts) (devices h n left k out) new c) same answers))

-- the notes were read, and what that comes to
pub reads_notes : (held mid : Option Held) (of : AuditOf) (name : List ℕ) (files : List (List ℕ)) (m n : ℕ) → mid ≡ held → m ≤ n
    → (left : Option (List ℕ)) (k : ℕ) (out : Account) (new : Devices) (c : Cause) → Answers (λ _. AuditComesTo mid of name files) (devices mid n left k out) new c
    → Answers (λ _. AuditComesTo held of name files) (devices held m left k out) new c
reads_notes held mid of name files m n same l left k out new c answers =
    later (λ _. AuditComesTo held of name files) held m n left k out new c l
    (subst (λ h. Answers (λ _. AuditComesTo h of name files) (devices h n left k out) new c) same answers)
