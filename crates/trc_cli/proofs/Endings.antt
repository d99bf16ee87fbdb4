-- What compiling is for a command.
use Rattle.std.proofs.Common.{◌≡◌, ℕ, List, [], Option, Some, None, refl, sym, ap, ◌∙◌, subst}
use Rattle.outside.specs.Files.{Held}
use Rattle.outside.specs.Sink.{Account}
use Rattle.trc_answers.specs.declared.places.Position.{Position}
use Rattle.object_commands.specs.words.alloc_choice.declared.choice.Choice.{Choice}
use Rattle.image_form.specs.declared.image.Image.{Image}
use Rattle.object_commands.specs.words.program_image.declared.imaging.Compiled.{Compiled}
use Rattle.object_commands.specs.words.source_image.Images.{IsImageOfTexts, AreTracesOfTexts}
use Rattle.object_commands.specs.words.source_image.Refusals.{IsRefusal, IsRefusalOfTraces}
use Rattle.trc_answers.specs.declared.causes.Cause.{Cause}
use Rattle.trc_answers.specs.declared.causes.Cause.TheVariants as cause
use Rattle.trc_answers.specs.declared.causes.Outcome.{Outcome}
use Rattle.trc_answers.specs.Causes.{IsPlaced, line_of, status_of}
use Rattle.trc_answers.specs.Causes.{TookLine}
use Rattle.trc_answers.specs.Verdict.{Verdict, Refuses, world}
use Rattle.trc_answers.specs.Answers.{Devices, devices, Answers, PrintAnswers}
use Rattle.trc_answers.proofs.Answering.{refuses, lacks, mapped, prints}
use Rattle.trc_cli.specs.Commands.{IsRefusedAs, TextsComeTo, HaveNoImage, HaveImage, TracesComeTo, HaveNoTraces, HaveTraces, IsTextOf, first_module, names_read, ComesTo, FaultsOnlyInExec, FilesUse, InputUse}
use Rattle.object_commands.proofs.trc_texts.Refusing.{refused}
use Rattle.trc_cli.specs.Lines.{IsTold}
use Rattle.word_requests.specs.Asked.{Asked, Run, Build, Elf, Exec, Traces, Bulk, Audit, Object, Link, Mean, Both, Batch, Check, Explain, Compare, Show, Help}
use Rattle.trc_cli.specs.Did.{Did}
use Rattle.trc_cli.proofs.Sound.{faults_only_in_exec}

-- texts have no image
pub no_image : (choice : Choice) (texts : List (List ℕ)) (next : Option (List ℕ) → Compiled → Verdict → Type 0) (cause : Cause) → IsRefusedAs (IsRefusal choice texts) cause
    → (held : Option Held) (m : ℕ) (left : Option (List ℕ)) (k : ℕ) (out : Account) → Answers (λ l. TextsComeTo choice (next l) texts) (devices held m left k out) (devices held m left k out) cause
no_image choice texts next cause h = refused (IsRefusal choice texts) (λ l. TextsComeTo choice (next l) texts) (λ l v r. HaveNoImage r) cause h

-- texts have an image, and it comes to something
pub has_image : (choice : Choice) (texts : List (List ℕ)) (next : Option (List ℕ) → Compiled → Verdict → Type 0) (made : Compiled) (old new : Devices) (cause : Cause) → IsImageOfTexts choice texts made
    → Answers (λ l. next l made) old new cause → Answers (λ l. TextsComeTo choice (next l) texts) old new cause
has_image choice texts next made old new cause is answers = mapped (λ l. next l made) (λ l. TextsComeTo choice (next l) texts) old new cause (λ l v it. HaveImage made is it) answers

-- texts have an image, which comes to something
pub image_comes : (choice : Choice) (texts : List (List ℕ)) (comes : Option (List ℕ) → Image → Verdict → Type 0) (made : Compiled) (image : Image) (old new : Devices) (cause : Cause) → IsImageOfTexts choice texts made
    → image ≡ made.image → Answers (λ l. comes l image) old new cause → Answers (λ l. TextsComeTo choice (λ m. comes l m.image) texts) old new cause
image_comes choice texts comes made image old new cause is same answers =
    has_image choice texts (λ l m. comes l m.image) made old new cause is (subst (λ i. Answers (λ l. comes l i) old new cause) same answers)

-- texts have no traces
pub no_traces : (choice : Choice) (texts : List (List ℕ)) (cause : Cause) → IsRefusedAs (IsRefusalOfTraces choice texts) cause
    → (held : Option Held) (m : ℕ) (left : Option (List ℕ)) (k : ℕ) (out : Account) → Answers (λ _. TracesComeTo choice texts) (devices held m left k out) (devices held m left k out) cause
no_traces choice texts cause h = refused (IsRefusalOfTraces choice texts) (λ _. TracesComeTo choice texts) (λ _ v r. HaveNoTraces r) cause h

-- texts have traces, which are told
pub has_traces : (choice : Choice) (texts : List (List ℕ)) (lines printed : List ℕ) (held : Option Held) (m : ℕ) (left : Option (List ℕ)) (k : ℕ) (a b : Account) (cause : Cause)
    → AreTracesOfTexts choice texts lines → printed ≡ lines → PrintAnswers printed a b cause → Answers (λ _. TracesComeTo choice texts) (devices held m left k a) (devices held m left k b) cause
has_traces choice texts lines printed held m left k a b cause are same answers =
    prints (λ _. TracesComeTo choice texts) lines held m left k a b cause (HaveTraces lines are refl) (subst (λ ls. PrintAnswers ls a b cause) same answers)

---- Lines without names

told_plainly : (held : Option Held) (asked : Option Asked) (a b : Account) (place : Position) (cause other : Cause) → cause ≡ other → IsPlaced (IsTextOf held asked) other place
    → line_of [] 0 place other ≡ line_of (names_read asked) (first_module asked) place other → TookLine a b (line_of [] 0 place cause) → IsTold held asked a b cause
told_plainly held asked a b place cause other is placed same line =
    subst (IsTold held asked a b) (sym is)
    (record { place = place; placed = placed; told = subst (TookLine a b) same (subst (λ c. TookLine a b (line_of [] 0 place c)) is line) })

pub told_of_memory : (held : Option Held) (asked : Option Asked) (a b : Account) (place : Position) (ended : Cause) → ended ≡ cause.Memory → TookLine a b (line_of [] 0 place ended) → IsTold held asked a b ended
told_of_memory held asked a b place ended is line = told_plainly held asked a b place ended cause.Memory is tt refl line

pub told_of_usage : (held : Option Held) (asked : Option Asked) (a b : Account) (place : Position) (ended : Cause) → ended ≡ cause.Usage → TookLine a b (line_of [] 0 place ended) → IsTold held asked a b ended
told_of_usage held asked a b place ended is line = told_plainly held asked a b place ended cause.Usage is tt refl line

---- What was done

untouched : (request : Option Asked) (t : Devices) → FilesUse request t t
untouched None t = record { held = refl; faults = refl }
untouched (Some (Run files choice steps)) t = tt
untouched (Some (Build out files choice from notes)) t = tt
untouched (Some (Elf out files choice)) t = tt
untouched (Some (Exec image steps)) t = tt
untouched (Some (Traces files choice)) t = tt
untouched (Some (Bulk seed size choice steps)) t = record { held = refl; faults = refl }
untouched (Some (Audit out notes files builder regs)) t = tt
untouched (Some (Object out files choice)) t = tt
untouched (Some (Link out objects)) t = tt
untouched (Some (Mean files turns)) t = tt
untouched (Some (Both files choice steps turns)) t = tt
untouched (Some (Batch list choice steps)) t = tt
untouched (Some (Check files format)) t = tt
untouched (Some (Explain topic)) t = record { held = refl; faults = refl }
untouched (Some (Compare files jobs steps)) t = tt
untouched (Some (Show out files choice against)) t = tt
untouched (Some Help) t = record { held = refl; faults = refl }

unread : (request : Option Asked) (t : Devices) → InputUse request t t
unread None t = record { left = refl; faults = refl }
unread (Some (Run files choice steps)) t = tt
unread (Some (Build out files choice from notes)) t = record { left = refl; faults = refl }
unread (Some (Elf out files choice)) t = record { left = refl; faults = refl }
unread (Some (Exec image steps)) t = tt
unread (Some (Traces files choice)) t = record { left = refl; faults = refl }
unread (Some (Bulk seed size choice steps)) t = record { left = refl; faults = refl }
unread (Some (Audit out notes files builder regs)) t = record { left = refl; faults = refl }
unread (Some (Object out files choice)) t = record { left = refl; faults = refl }
unread (Some (Link out objects)) t = record { left = refl; faults = refl }
unread (Some (Mean files turns)) t = tt
unread (Some (Both files choice steps turns)) t = tt
unread (Some (Batch list choice steps)) t = record { left = refl; faults = refl }
unread (Some (Check files format)) t = record { left = refl; faults = refl }
unread (Some (Explain topic)) t = record { left = refl; faults = refl }
unread (Some (Compare files jobs steps)) t = tt
unread (Some (Show out files choice against)) t = record { left = refl; faults = refl }
unread (Some Help) t = record { left = refl; faults = refl }

-- a command ended for a cause, which was told
pub did_as : (request : Option Asked) (old new : Devices) (a b : Account) (outcome : Outcome) (ended : Cause) → outcome.cause ≡ ended → outcome.status ≡ status_of ended
    → Answers (λ left. ComesTo (world old.held left) request) old new ended → InputUse request old new → FilesUse request old new → IsTold old.held request a b ended
    → Did request old new a b outcome
did_as request old new a b outcome ended is status answers input files told = record {
  answers = subst (Answers (λ left. ComesTo (world old.held left) request) old new) (sym is) answers;
  unread = input;
  untouched = files;
  no_fault = subst (FaultsOnlyInExec request) (sym is) (faults_only_in_exec request old new ended answers);
  status = status ∙ ap status_of (sym is);
  told = subst (IsTold old.held request a b) (sym is) told;
}

-- there was no memory, and no device was touched
pub did_nothing : (request : Option Asked) (held : Option Held) (m : ℕ) (left : Option (List ℕ)) (k : ℕ) (out a b : Account) (outcome : Outcome) (ended : Cause)
    → outcome.cause ≡ ended → ended ≡ cause.Memory → outcome.status ≡ status_of ended → IsTold held request a b ended
    → Did request (devices held m left k out) (devices held m left k out) a b outcome
did_nothing request held m left k out a b outcome ended is memory status told =
    did_as request (devices held m left k out) (devices held m left k out) a b outcome ended is status (lacks (λ l. ComesTo (world held l) request) held held m m left k out ended memory refl)
    (unread request (devices held m left k out)) (untouched request (devices held m left k out)) told

-- the words ask for nothing
pub refused_usage : (request : Option Asked) (held : Option Held) (m : ℕ) (left : Option (List ℕ)) (k : ℕ) (out a b : Account) (outcome : Outcome) (ended : Cause)
    → request ≡ None → outcome.cause ≡ ended → ended ≡ cause.Usage → outcome.status ≡ status_of ended → IsTold held None a b ended
    → Did request (devices held m left k out) (devices held m left k out) a b outcome
refused_usage request held m left k out a b outcome ended none is usage status told =
    subst (λ r. Did r (devices held m left k out) (devices held m left k out) a b outcome) (sym none)
    (did_as None (devices held m left k out) (devices held m left k out) a b outcome ended is status (refuses (λ l. ComesTo (world held l) None) held held m m left k out ended refl (ap Refuses usage))
    (unread None (devices held m left k out)) (untouched None (devices held m left k out)) told)
