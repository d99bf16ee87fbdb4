-- What compiled modules answer is no fault of the machine.
use Rattle.std.proofs.Common.{◌≡◌, ℕ, List, [], ◌∷◌, length, Bool, Option, Some, None, refl, sym, subst, arith}
use Rattle.outside.specs.Files.{Held}
use Rattle.a64_memory.specs.Memory.{AreBytes}
use Rattle.image_form.specs.declared.image.Image.{Image}
use Rattle.image_form.specs.declared.image.ProcPlace.{ProcPlace}
use Rattle.run_laws.specs.Runs.{Outcome, Ended, Trapped, Going}
use Rattle.a64_machine.specs.State.{Trap, Broke, Undefined, BadAddress, BadCall}
use Rattle.object_commands.specs.words.alloc_choice.declared.choice.Choice.{Choice}
use Rattle.object_commands.specs.words.alloc_choice.declared.choice.Policy.{Policy}
use Rattle.object_commands.specs.words.program_image.declared.imaging.Compiled.{Compiled}
use Rattle.object_commands.specs.words.source_image.Images.{IsImageOfTexts}
use Rattle.object_commands.specs.words.source_image.declared.refusal.Refusal.{Refusal}
use Rattle.object_commands.specs.words.source_image.declared.refusal.Refusal.TheVariants as refusal
use Rattle.object_commands.specs.words.text_laws.no_faults.Faults.{IsBreak}
use Rattle.object_commands.proofs.words.text_laws.no_faults.Never.{image_never_faults}
use Rattle.bulk_text.specs.Bulk.{bulk_text}
use Rattle.batch_jobs.specs.Batches.{BatchComesTo, LacksList, HasLongList, HasList, HasBadLine, HasLines, AreTooMany, AreTooLarge, HaveJobs}
use Rattle.object_commands.specs.noted_image.declared.noting.NotedImage.{NotedImage}
use Rattle.object_form.specs.declared.object.Object.{Object as ObjectRead}
use Rattle.ob_types.specs.Store.{Kind, Senseless}
use Rattle.ob_types.specs.Store.{Trap as Meant}
use Rattle.ob_types.specs.Meaning.{meaning}
use Rattle.ob_types.specs.declared.program.Program.{Program}
use Rattle.compare_commands.specs.meaning_commands.Inputs.{InputComesTo, WantsNone, HasInput}
use Rattle.compare_commands.specs.meaning_commands.Inputs.{HasTooMuch as HasMuchInput}
use Rattle.compare_commands.specs.meaning_commands.Meanings.{cause_of_meaning, MeanComeTo, HaveNoMeaning, HaveMeaning}
use Rattle.compare_commands.specs.meaning_commands.Comparisons.{BothComeTo, HaveNoneToCompare, HaveBoth}
use Rattle.compare_commands.specs.Compares.{ComparesComeTo, HaveNoneToCompare as HaveNoTable, HaveTable}
use Rattle.show_commands.specs.Shows.{ShowComesTo, HaveNoPage, HavePage}
use Rattle.object_commands.specs.note_commands.Noted.{NotedComeTo, HaveNoNotes, HaveNotes}
use Rattle.object_commands.specs.note_commands.Audits.{AuditOf, AuditComesTo, AreTooMany as AreTooManyModules, LacksNotes, LacksTexts, HasTexts, PlanComesTo, HaveNoPlan, HavePlan, AreTooLong, AreNoNotes, HaveResults, AreUnsound, MakeMuchCode, MakeAnImage, one_behind}
use Rattle.object_commands.specs.Objects.{IsTooLong as IsTooLongAnObject, IsShort, ObjectComesTo, HaveNoObject, HaveObject}
use Rattle.object_commands.specs.Links.{HaveObjects, HaveNoPlan as HaveNoJointPlan, HavePlan as HaveJointPlan, LinkComesTo, AreTooMany as AreTooManyObjects, LacksOne as LacksAnObject, HaveContents, ObjectsComeTo, HasOther, AreOfOne}
use Rattle.object_commands.specs.Links.{HaveNoObject as HaveABrokenOne}
use Rattle.explanations.specs.declared.format.Format.{Format}
use Rattle.explanations.specs.declared.format.Format.TheVariants.{Text, Json}
use Rattle.module_check.specs.Checks.{CheckComesTo, AreLegal, AreNot, told_of}
use Rattle.object_commands.specs.words.source_program.declared.fault.SourceFault.{SourceFault}
use Rattle.object_commands.specs.words.source_program.declared.fault.SourceFault.TheVariants as source
use Rattle.word_requests.specs.Asked.{Asked, Run, Build, Elf, Exec, Traces, Bulk, Audit, Object, Link, Mean, Both, Batch, Check, Explain, Compare, Show, Help}
use Rattle.trc_answers.specs.declared.causes.Cause.{Cause}
use Rattle.trc_answers.specs.declared.causes.Cause.TheVariants as cause
use Rattle.trc_answers.specs.Reading.{FilesComeTo, AreTooMany as AreTooManyFiles, LacksOne, HasALongOne, HaveTexts}
use Rattle.trc_answers.specs.Runs.{run_of, cause_of_trap, cause_of_run}
use Rattle.trc_answers.specs.Verdict.{Verdict, Refuses, cause_of, FileComesTo, IsMissing, HasTooMany, HasBytes, ImageComesTo, RunsAlone, RunsOnInput, HasTooMuch, Renews, AreTheSame, Differ, world}
use Rattle.trc_answers.specs.Answers.{Devices, Answers, AsItComes, FailsReadingFiles, FailsReadingInput, FailsPrinting, FailsWriting, FailsWritingSecond, LacksMemoryBetween, LacksMemoryInside, LacksMemory}
use Rattle.trc_cli.specs.Commands.{ComesTo, IsNoMachineFault, FaultsOnlyInExec, cause_of_refusal, TextsComeTo, HaveNoImage, HaveImage, TracesComeTo, HaveNoTraces, HaveTraces, told_of_run}

-- the cause of a verdict is none
abbrev Sound : Verdict → Type 0
Sound verdict = IsNoMachineFault (cause_of verdict)

as_sound : (v w : Verdict) → v ≡ w → Sound w → Sound v
as_sound v w e h = subst Sound (sym e) h

refusals : (r : Refusal) → IsNoMachineFault (cause_of_refusal r)
refusals (refusal.TooLong m) = tt
refusals (refusal.Source m number at) = tt
refusals (refusal.Limit number index) = tt
refusals refusal.Memory = tt

breaks : (places : List ProcPlace) (trap : Trap) → IsBreak trap → IsNoMachineFault (cause_of_trap places trap)
breaks places (Broke kind word) h = tt
breaks places (Undefined word) h = absurd h
breaks places (BadAddress address) h = absurd h
breaks places (BadCall number) h = absurd h

-- of an image of texts no run comes to one
run_sound : (choice : Choice) (texts : List (List ℕ)) (made : Compiled) (input : List ℕ) (steps : ℕ) → IsImageOfTexts choice texts made → AreBytes input
    → (outcome : Outcome Trap) → run_of made.image input steps ≡ outcome → IsNoMachineFault (cause_of_run made.image.places outcome)
run_sound choice texts made input steps is are (Ended out) e = tt
run_sound choice texts made input steps is are (Trapped trap out) e = breaks made.image.places trap (image_never_faults choice texts made input steps trap out is are e)
run_sound choice texts made input steps is are (Going out) e = tt

no_bytes : AreBytes []
no_bytes i = omega arith

image_sound : (choice : Choice) (texts : List (List ℕ)) (made : Compiled) (left : Option (List ℕ)) (steps : ℕ) (v : Verdict) → IsImageOfTexts choice texts made → ImageComesTo left steps made.image v → Sound v
image_sound choice texts made left steps v is (RunsAlone flag e) = as_sound v _ e (run_sound choice texts made [] steps is no_bytes (run_of made.image [] steps) refl)
image_sound choice texts made left steps v is (RunsOnInput input flag there are few e) = as_sound v _ e (run_sound choice texts made input steps is are (run_of made.image input steps) refl)
image_sound choice texts made left steps v is (HasTooMuch input flag there many e) = as_sound v _ e tt

told_sound : (choice : Choice) (texts : List (List ℕ)) (made : Compiled) (steps : ℕ) → IsImageOfTexts choice texts made → (outcome : Outcome Trap) → run_of made.image [] steps ≡ outcome → Sound (told_of_run made outcome)
told_sound choice texts made steps is (Ended out) e = tt
told_sound choice texts made steps is (Trapped trap out) e = run_sound choice texts made [] steps is no_bytes (Trapped trap out) e
told_sound choice texts made steps is (Going out) e = tt

texts_sound : (choice : Choice) (texts : List (List ℕ)) (next : Compiled → Verdict → Type 0) (v : Verdict) → ((made : Compiled) → IsImageOfTexts choice texts made → next made v → Sound v) → TextsComeTo choice next texts v → Sound v
texts_sound choice texts next v f (HaveNoImage r) = as_sound v _ r.verdict_is (refusals r.refusal)
texts_sound choice texts next v f (HaveImage made is h) = f made is h

traces_sound : (choice : Choice) (texts : List (List ℕ)) (v : Verdict) → TracesComeTo choice texts v → Sound v
traces_sound choice texts v (HaveNoTraces r) = as_sound v _ r.verdict_is (refusals r.refusal)
traces_sound choice texts v (HaveTraces lines are e) = as_sound v _ e tt

files_sound : (held : Option Held) (names : List (List ℕ)) (next : List (List ℕ) → Verdict → Type 0) (v : Verdict) → ((texts : List (List ℕ)) → next texts v → Sound v) → FilesComeTo held names next v → Sound v
files_sound held names next v f (AreTooManyFiles many e) = as_sound v _ e tt
files_sound held names next v f (LacksOne number name reached none e) = as_sound v _ e tt
files_sound held names next v f (HasALongOne number name text reached is long e) = as_sound v _ e tt
files_sound held names next v f (HaveTexts texts are h) = f texts h

file_sound : (held : Option Held) (number : ℕ) (name : List ℕ) (next : List ℕ → Verdict → Type 0) (v : Verdict) → ((bytes : List ℕ) → next bytes v → Sound v) → FileComesTo held number name next v → Sound v
file_sound held number name next v f (IsMissing none e) = as_sound v _ e tt
file_sound held number name next v f (HasTooMany bytes is many e) = as_sound v _ e tt
file_sound held number name next v f (HasBytes bytes is few h) = f bytes h

renews_sound : (bytes : List ℕ) (image : Image) (next : Verdict → Type 0) (v : Verdict) → (next v → Sound v) → Renews bytes image next v → Sound v
renews_sound bytes image next v f (AreTheSame same h) = f h
renews_sound bytes image next v f (Differ at d e) = as_sound v _ e tt

noted_sound : (choice : Choice) (next : NotedImage → Verdict → Type 0) (texts : List (List ℕ)) (v : Verdict) → ((made : NotedImage) → next made v → Sound v) → NotedComeTo choice next texts v → Sound v
noted_sound choice next texts v f (HaveNoNotes r) = as_sound v _ r.verdict_is (refusals r.refusal)
noted_sound choice next texts v f (HaveNotes made is h) = f made h

behind_sound : (c : Cause) → IsNoMachineFault c → IsNoMachineFault (one_behind c)
behind_sound (cause.NoSuchFile number) h = tt
behind_sound _ h = h

plan_sound : (of : AuditOf) (bytes : List ℕ) (texts : List (List ℕ)) (v : Verdict) → PlanComesTo of bytes texts v → Sound v
plan_sound of bytes texts v (HaveNoPlan r) = as_sound v _ r.verdict_is (refusals r.refusal)
plan_sound of bytes texts v (HavePlan plan is (AreTooLong long e)) = as_sound v _ e tt
plan_sound of bytes texts v (HavePlan plan is (AreNoNotes number at few rule e)) = as_sound v _ e tt
plan_sound of bytes texts v (HavePlan plan is (HaveResults outs few are same (AreUnsound trace node line found e))) = as_sound v _ e tt
plan_sound of bytes texts v (HavePlan plan is (HaveResults outs few are same (MakeMuchCode much e))) = as_sound v _ e tt
plan_sound of bytes texts v (HavePlan plan is (HaveResults outs few are same (MakeAnImage image of_results form words e))) = as_sound v _ e tt

audit_sound : (held : Option Held) (of : AuditOf) (name : List ℕ) (files : List (List ℕ)) (v : Verdict) → AuditComesTo held of name files v → Sound v
audit_sound held of name files v (AreTooManyModules many e) = as_sound v _ e tt
audit_sound held of name files v (LacksNotes few none e) = as_sound v _ e tt
audit_sound held of name files v (LacksTexts bytes c few there comes e) = as_sound v _ e (behind_sound c (files_sound held files _ (Refuses c) (λ texts h. absurd h) comes))
audit_sound held of name files v (HasTexts bytes texts there are h) = plan_sound of bytes texts v h

object_sound : (choice : Choice) (out : List ℕ) (texts : List (List ℕ)) (v : Verdict) → ObjectComesTo choice out texts v → Sound v
object_sound choice out texts v (HaveNoObject r) = as_sound v _ r.verdict_is (refusals r.refusal)
object_sound choice out texts v (HaveObject object is (IsTooLongAnObject long e)) = as_sound v _ e tt
object_sound choice out texts v (HaveObject object is (IsShort short read e)) = as_sound v _ e tt

objects_sound : (out : List ℕ) (objects : List ObjectRead) (v : Verdict) → ObjectsComeTo out objects v → Sound v
objects_sound out objects v (HasOther object other e) = as_sound v _ e tt
objects_sound out objects v (AreOfOne first rest is none (HaveNoJointPlan r)) = as_sound v _ r.verdict_is (refusals r.refusal)
objects_sound out objects v (AreOfOne first rest is none (HaveJointPlan plan of_texts (AreUnsound trace node line found e))) = as_sound v _ e tt
objects_sound out objects v (AreOfOne first rest is none (HaveJointPlan plan of_texts (MakeMuchCode much e))) = as_sound v _ e tt
objects_sound out objects v (AreOfOne first rest is none (HaveJointPlan plan of_texts (MakeAnImage image of_results form words e))) = as_sound v _ e tt

link_sound : (held : Option Held) (out : List ℕ) (names : List (List ℕ)) (v : Verdict) → LinkComesTo held out names v → Sound v
link_sound held out names v (AreTooManyObjects many e) = as_sound v _ e tt
link_sound held out names v (LacksAnObject number name before few are there none e) = as_sound v _ e tt
link_sound held out names v (HaveContents contents few are (HaveABrokenOne word number at broken e)) = as_sound v _ e tt
link_sound held out names v (HaveContents contents few are (HaveObjects objects are' h)) = objects_sound out objects v h

batch_sound : (held : Option Held) (choice : Choice) (steps : ℕ) (list : List ℕ) (v : Verdict) → BatchComesTo held choice steps list v → Sound v
batch_sound held choice steps list v (LacksList none e) = as_sound v _ e tt
batch_sound held choice steps list v (HasLongList bytes is long e) = as_sound v _ e tt
batch_sound held choice steps list v (HasList bytes is few (HasBadLine number bad e)) = as_sound v _ e tt
batch_sound held choice steps list v (HasList bytes is few (HasLines lines are (AreTooMany many e))) = as_sound v _ e tt
batch_sound held choice steps list v (HasList bytes is few (HasLines lines are (AreTooLarge some passes e))) = as_sound v _ e tt
batch_sound held choice steps list v (HasList bytes is few (HasLines lines are (HaveJobs first second some jobs replied))) = as_sound v _ replied.verdict_is tt

meant_sound : (p : Program) (o : Outcome Meant) → IsNoMachineFault (cause_of_meaning p o)
meant_sound p (Ended out) = tt
meant_sound p (Trapped (Kind kind f) out) = tt
meant_sound p (Trapped Senseless out) = tt
meant_sound p (Going out) = tt

input_sound : (left : Option (List ℕ)) (wanted : Bool) (next : List ℕ → Verdict → Type 0) (v : Verdict) → ((input : List ℕ) → next input v → Sound v) → InputComesTo left wanted next v → Sound v
input_sound left wanted next v f (WantsNone w h) = f [] h
input_sound left wanted next v f (HasInput input w is are few h) = f input h
input_sound left wanted next v f (HasMuchInput input w is many e) = as_sound v _ e tt

mean_sound : (left : Option (List ℕ)) (turns : ℕ) (texts : List (List ℕ)) (v : Verdict) → MeanComeTo left turns texts v → Sound v
mean_sound left turns texts v (HaveNoMeaning r) = as_sound v _ r.verdict_is (refusals r.refusal)
mean_sound left turns texts v (HaveMeaning p x within h) = input_sound left p.imports_in _ v (λ input e. as_sound v _ e (meant_sound p (meaning p input turns))) h

both_sound : (left : Option (List ℕ)) (choice : Choice) (steps turns : ℕ) (texts : List (List ℕ)) (v : Verdict) → BothComeTo left choice steps turns texts v → Sound v
both_sound left choice steps turns texts v (HaveNoneToCompare r) = as_sound v _ r.verdict_is (refusals r.refusal)
both_sound left choice steps turns texts v (HaveBoth p image x is h) = input_sound left p.imports_in _ v (λ input e. as_sound v _ e tt) h

compare_sound : (left : Option (List ℕ)) (jobs steps : ℕ) (texts : List (List ℕ)) (v : Verdict) → ComparesComeTo left jobs steps texts v → Sound v
compare_sound left jobs steps texts v (HaveNoTable r) = as_sound v _ r.verdict_is (refusals r.refusal)
compare_sound left jobs steps texts v (HaveTable p rows is within are h) = input_sound left p.imports_in _ v (λ input e. as_sound v _ e tt) h

show_sound : (choice : Choice) (against : Option Policy) (out : List ℕ) (names texts : List (List ℕ)) (v : Verdict) → ShowComesTo choice against out names texts v → Sound v
show_sound choice against out names texts v (HaveNoPage r) = as_sound v _ r.verdict_is (refusals r.refusal)
show_sound choice against out names texts v (HavePage page is e) = as_sound v _ e tt

found_sound : (format : Format) (names texts : List (List ℕ)) (fault : SourceFault) → IsNoMachineFault (cause_of (told_of format names texts fault))
found_sound Json names texts (source.Fault m rule at) = tt
found_sound Json names texts (source.TooLong m) = tt
found_sound Json names texts source.Memory = tt
found_sound Text names texts (source.Fault m rule at) = tt
found_sound Text names texts (source.TooLong m) = tt
found_sound Text names texts source.Memory = tt

check_sound : (format : Format) (names texts : List (List ℕ)) (v : Verdict) → CheckComesTo format names texts v → Sound v
check_sound format names texts v (AreLegal p is e) = as_sound v _ e tt
check_sound format names texts v (AreNot fault is tells e) = as_sound v _ e (found_sound format names texts fault)

-- so words that ask for anything but the run of an image of a file don't
comes_sound : (held : Option Held) (left : Option (List ℕ)) (asked : Option Asked) (v : Verdict) → ComesTo (world held left) asked v → FaultsOnlyInExec asked (cause_of v)
comes_sound held left None v h = as_sound v _ h tt
comes_sound held left (Some (Run files choice steps)) v h =
    files_sound held files _ v (λ texts. texts_sound choice texts _ v (λ made is. image_sound choice texts made left steps v is)) h
comes_sound held left (Some (Build out files choice None None)) v h = files_sound held files _ v (λ texts. texts_sound choice texts _ v (λ made is e. as_sound v _ e tt)) h
comes_sound held left (Some (Build out files choice (Some from) None)) v h =
    files_sound held files _ v (λ texts. file_sound held (length files) from _ v (λ bytes. texts_sound choice texts _ v (λ made is. renews_sound bytes made.image _ v (λ e. as_sound v _ e tt)))) h
comes_sound held left (Some (Build out files choice None (Some notes))) v h = files_sound held files _ v (λ texts. noted_sound choice _ texts v (λ made e. as_sound v _ e tt)) h
comes_sound held left (Some (Build out files choice (Some from) (Some notes))) v h =
    files_sound held files _ v (λ texts. file_sound held (length files) from _ v (λ bytes. noted_sound choice _ texts v (λ made. renews_sound bytes made.image _ v (λ e. as_sound v _ e tt)))) h
comes_sound held left (Some (Elf out files choice)) v h = files_sound held files _ v (λ texts. texts_sound choice texts _ v (λ made is e. as_sound v _ e tt)) h
comes_sound held left (Some (Exec image steps)) v h = tt
comes_sound held left (Some (Traces files choice)) v h = files_sound held files _ v (λ texts. traces_sound choice texts v) h
comes_sound held left (Some (Bulk seed size choice steps)) v h =
    texts_sound choice (bulk_text seed size ∷ []) _ v (λ made is e. as_sound v _ e (told_sound choice (bulk_text seed size ∷ []) made steps is (run_of made.image [] steps) refl)) h
comes_sound held left (Some (Audit out notes files builder regs)) v h = audit_sound held _ notes files v h
comes_sound held left (Some (Object out files choice)) v h = files_sound held files _ v (λ texts. object_sound choice out texts v) h
comes_sound held left (Some (Link out objects)) v h = link_sound held out objects v h
comes_sound held left (Some (Mean files turns)) v h = files_sound held files _ v (λ texts. mean_sound left turns texts v) h
comes_sound held left (Some (Both files choice steps turns)) v h = files_sound held files _ v (λ texts. both_sound left choice steps turns texts v) h
comes_sound held left (Some (Batch list choice steps)) v h = batch_sound held choice steps list v h
comes_sound held left (Some (Check files format)) v h = files_sound held files _ v (λ texts. check_sound format files texts v) h
comes_sound held left (Some (Explain topic)) v h = as_sound v _ h tt
comes_sound held left (Some (Compare files jobs steps)) v h = files_sound held files _ v (λ texts. compare_sound left jobs steps texts v) h
comes_sound held left (Some (Show out files choice against)) v h = files_sound held files _ v (λ texts. show_sound choice against out files texts v) h
comes_sound held left (Some Help) v h = as_sound v _ h tt

as_cause : (asked : Option Asked) (c d : Cause) → c ≡ d → FaultsOnlyInExec asked d → FaultsOnlyInExec asked c
as_cause asked c d e h = subst (FaultsOnlyInExec asked) (sym e) h

-- other causes are none
other_cause : (asked : Option Asked) (c : Cause) → IsNoMachineFault c → FaultsOnlyInExec asked c
other_cause None c h = h
other_cause (Some (Run files choice steps)) c h = h
other_cause (Some (Build out files choice from notes)) c h = h
other_cause (Some (Elf out files choice)) c h = h
other_cause (Some (Exec image steps)) c h = tt
other_cause (Some (Traces files choice)) c h = h
other_cause (Some (Bulk seed size choice steps)) c h = h
other_cause (Some (Audit out notes files builder regs)) c h = h
other_cause (Some (Object out files choice)) c h = h
other_cause (Some (Link out objects)) c h = h
other_cause (Some (Mean files turns)) c h = h
other_cause (Some (Both files choice steps turns)) c h = h
other_cause (Some (Batch list choice steps)) c h = h
other_cause (Some (Check files format)) c h = h
other_cause (Some (Explain topic)) c h = h
other_cause (Some (Compare files jobs steps)) c h = h
other_cause (Some (Show out files choice against)) c h = h
other_cause (Some Help) c h = h

pub faults_only_in_exec : (asked : Option Asked) (old new : Devices) (c : Cause) → Answers (λ left. ComesTo (world old.held left) asked) old new c → FaultsOnlyInExec asked c
faults_only_in_exec asked old new c (AsItComes v it is done) = as_cause asked c (cause_of v) is (comes_sound old.held old.left asked v it)
faults_only_in_exec asked old new c (FailsReadingFiles is rose nothing still) = as_cause asked c _ is (other_cause asked _ tt)
faults_only_in_exec asked old new c (FailsReadingInput reads is rose nothing) = as_cause asked c _ is (other_cause asked _ tt)
faults_only_in_exec asked old new c (FailsPrinting v it is cut) = as_cause asked c _ is (other_cause asked _ tt)
faults_only_in_exec asked old new c (FailsWriting v name bytes rest it first is failed) = as_cause asked c _ is (other_cause asked _ tt)
faults_only_in_exec asked old new c (FailsWritingSecond name bytes other others it is failed) = as_cause asked c _ is (other_cause asked _ tt)
faults_only_in_exec asked old new c (LacksMemoryBetween name bytes other others it is half) = as_cause asked c _ is (other_cause asked _ tt)
faults_only_in_exec asked old new c (LacksMemoryInside reads ended written it is short) = as_cause asked c _ is (other_cause asked _ tt)
faults_only_in_exec asked old new c (LacksMemory is nothing either) = as_cause asked c _ is (other_cause asked _ tt)
