-- Words come to one thing.
use Rattle.std.proofs.Common.{◌≡◌, ◌<◌, ◌≤◌, ℕ, List, [], ◌∷◌, length, true, Option, Some, None, ◌⊎◌, inl, inr, refl, sym, ap, ◌∙◌, subst, arith}
use Rattle.std.specs.Prelude.{slice_get}
use Rattle.outside.specs.Files.{Held}
use Rattle.image_form.specs.declared.image.Image.{Image}
use Rattle.image_form.specs.Form.{IsInForm, IsVersionOne, IsVersionTwo}
use Rattle.image_file.specs.Rules.{Broken}
use Rattle.image_file.specs.Differing.{DifferAt}
use Rattle.image_file.specs.Spelling.{IsOfWords, image_bytes}
use Rattle.image_file.proofs.Versions.{header_is_short}
use Rattle.image_file.proofs.Whole.{images_are_same, image_has_no_fault, length_of_image}
use Rattle.object_commands.specs.words.alloc_choice.declared.choice.Choice.{Choice}
use Rattle.object_commands.specs.words.program_image.declared.imaging.Compiled.{Compiled}
use Rattle.object_commands.specs.words.source_image.Images.{IsImageOfTexts}
use Rattle.object_commands.specs.words.source_image.Refusals.{IsRefusal}
use Rattle.object_commands.specs.words.source_image.declared.refusal.Refusal.{Refusal}
use Rattle.object_commands.specs.words.source_image.declared.refusal.Refusal.TheVariants.{Memory as NoMemory}
use Rattle.bulk_text.specs.Bulk.{bulk_text}
use Rattle.batch_jobs.specs.Jobs.{Reply, IsRunReply, cut_reply}
use Rattle.batch_jobs.proofs.Once.{batch_once}
use Rattle.module_check.specs.Checks.{CheckComesTo}
use Rattle.compare_commands.specs.meaning_commands.Meanings.{MeanComeTo}
use Rattle.compare_commands.specs.meaning_commands.Comparisons.{BothComeTo}
use Rattle.compare_commands.specs.Compares.{ComparesComeTo}
use Rattle.show_commands.specs.Shows.{ShowComesTo}
use Rattle.object_commands.specs.note_commands.Noted.{NotedComeTo, NotedAnewComeTo, NotesWritten}
use Rattle.object_commands.specs.note_commands.Audits.{AuditOf, AuditComesTo, AreTooMany as AreTooManyModules, LacksNotes, LacksTexts, HasTexts, PlanComesTo, audit_of, one_behind}
use Rattle.object_commands.specs.Objects.{ObjectComesTo}
use Rattle.word_requests.specs.Asked.{Asked, Run, Build, Elf, Exec, Traces, Bulk, Audit, Object, Link, Mean, Both, Batch, Check, Explain, Compare, Show, Help}
use Rattle.trc_answers.specs.declared.causes.Cause.{Cause}
use Rattle.trc_answers.specs.declared.causes.Cause.TheVariants.{Memory, NotImage, OtherImage}
use Rattle.trc_answers.specs.declared.causes.Device.TheVariants.{Files, Input, Output}
use Rattle.trc_answers.specs.Reading.{FilesComeTo, AreTooMany as AreTooManyFiles, LacksOne, HasALongOne, HaveTexts, Nothing}
use Rattle.trc_answers.specs.Causes.{status_of}
use Rattle.trc_answers.specs.Runs.{run_of}
use Rattle.trc_answers.specs.Verdict.{Verdict, Refuses, Runs, Writes, cause_of, FileComesTo, IsMissing, HasTooMany, HasBytes, ImageComesTo, RunsAlone, RunsOnInput, HasTooMuch, BytesComeTo, AreNoImage, AreAnImage, Written, WrittenElf, WrittenWith, Renews, AreTheSame, Differ, most_image, world}
use Rattle.trc_answers.specs.Answers.{Devices, Answers, AsItComes, FailsReadingFiles, FailsReadingInput, FailsPrinting, FailsWriting, FailsWritingSecond, LacksMemoryBetween, LacksMemoryInside, LacksMemory, AllDone}
use Rattle.trc_cli.specs.Commands.{ComesTo, AnewComesTo, cause_of_refusal, SummaryComesTo, TextsComeTo, HaveNoImage, HaveImage, TracesComeTo}
use Rattle.trc_cli.specs.Laws.{Alike, NoneFailed}
use Rattle.trc_cli.proofs.FilesOnce.{files_once, texts_there}
use Rattle.trc_cli.proofs.Same.{alike, both, two}
use Rattle.trc_cli.proofs.TextsOnce.{Laws, noted_once, texts_once, traces_once, told_same}

image_once : (left : List ℕ) (steps : ℕ) (image : Image) (a b : Verdict) → ImageComesTo (Some left) steps image a → ImageComesTo (Some left) steps image b → Alike a b
image_once left steps image a b (RunsAlone f e) (RunsAlone f' e') = both a b _ e e'
image_once left steps image a b (RunsAlone f e) (RunsOnInput input f' is are few e') = absurd (omega (arith, f, f'))
image_once left steps image a b (RunsAlone f e) (HasTooMuch input f' is many e') = absurd (omega (arith, f, f'))
image_once left steps image a b (RunsOnInput input f is are few e) (RunsAlone f' e') = absurd (omega (arith, f, f'))
image_once left steps image a b (RunsOnInput input f is are few e) (RunsOnInput other f' is' are' few' e') = two a b _ _ (ap (λ i. Runs true image.places (run_of image i steps)) (sym is ∙ is')) e e'
image_once left steps image a b (RunsOnInput input f is are few e) (HasTooMuch other f' is' many e') = let same = ap length (sym is ∙ is') in absurd (omega (arith, few, many, same))
image_once left steps image a b (HasTooMuch input f is many e) (RunsAlone f' e') = absurd (omega (arith, f, f'))
image_once left steps image a b (HasTooMuch input f is many e) (RunsOnInput other f' is' are few e') = let same = ap length (sym is ∙ is') in absurd (omega (arith, few, many, same))
image_once left steps image a b (HasTooMuch input f is many e) (HasTooMuch other f' is' many' e') = both a b _ e e'

same_broken : (b c : Broken) → Some b ≡ Some c → b ≡ c
same_broken b c e = cc

no_broken : (b : Broken) → Some b ≡ None → ⊥
no_broken b e = cc

bytes_once : (left : List ℕ) (steps : ℕ) (bytes : List ℕ) (a b : Verdict) → BytesComeTo (Some left) steps bytes a → BytesComeTo (Some left) steps bytes b → Alike a b
bytes_once left steps bytes a b (AreNoImage c is e) (AreNoImage d is' f) = two a b _ _ (ap (λ x. Refuses (NotImage x.number x.at)) (same_broken c d (sym is ∙ is'))) e f
bytes_once left steps bytes a b (AreNoImage c is e) (AreAnImage i form words is' f) = absurd (no_broken c (sym is ∙ image_has_no_fault bytes i form is'))
bytes_once left steps bytes a b (AreAnImage i form words is e) (AreNoImage c is' f) = absurd (no_broken c (sym is' ∙ image_has_no_fault bytes i form is))
bytes_once left steps bytes a b (AreAnImage i form words is e) (AreAnImage j form' words' is' f) =
    image_once left steps i a b e (subst (λ x. ImageComesTo (Some left) steps x b) (images_are_same j i form' form words' words (sym is' ∙ is)) f)

some_held : (xs ys : List ℕ) (o : Option (List ℕ)) → o ≡ Some xs → o ≡ Some ys → ys ≡ xs
some_held xs ys o e f = cc

not_held : (xs : List ℕ) (o : Option (List ℕ)) → o ≡ None → o ≡ Some xs → ⊥
not_held xs o e f = cc

file_once : (held : Held) (number : ℕ) (name : List ℕ) (next : List ℕ → Verdict → Type 0) (a b : Verdict) → ((bytes : List ℕ) → next bytes a → next bytes b → Alike a b)
    → FileComesTo (Some held) number name next a → FileComesTo (Some held) number name next b → Alike a b
file_once held number name next a b one (IsMissing none e) (IsMissing none' f) = both a b _ e f
file_once held number name next a b one (IsMissing none e) (HasTooMany bytes is many f) = absurd (not_held bytes _ none is)
file_once held number name next a b one (IsMissing none e) (HasBytes bytes is few f) = absurd (not_held bytes _ none is)
file_once held number name next a b one (HasTooMany bytes is many e) (IsMissing none f) = absurd (not_held bytes _ none is)
file_once held number name next a b one (HasTooMany bytes is many e) (HasTooMany other is' many' f) = both a b _ e f
file_once held number name next a b one (HasTooMany bytes is many e) (HasBytes other is' few f) = let same = ap length (some_held bytes other _ is is') in absurd (omega (arith, many, few, same))
file_once held number name next a b one (HasBytes bytes is few e) (IsMissing none f) = absurd (not_held bytes _ none is)
file_once held number name next a b one (HasBytes bytes is few e) (HasTooMany other is' many f) = let same = ap length (some_held bytes other _ is is') in absurd (omega (arith, many, few, same))
file_once held number name next a b one (HasBytes bytes is few e) (HasBytes other is' few' f) = one bytes e (subst (λ x. next x b) (some_held bytes other _ is is') f)

-- an image is built anew from bytes in one way
same_place : (at other : ℕ) (xs ys : List ℕ) → DifferAt at xs ys → DifferAt other xs ys → (at ≡ other) ⊎ ((at < other) ⊎ (other < at)) → at ≡ other
same_place at other xs ys d e (inl same) = same
same_place at other xs ys d e (inr (inl before)) = absurd (d.other (e.same at before))
same_place at other xs ys d e (inr (inr behind)) = absurd (e.other (d.same other behind))

ordered : (n m : ℕ) → (n ≡ m) ⊎ ((n < m) ⊎ (m < n))
ordered n m = grind arith

never_differ : (at : ℕ) (xs ys : List ℕ) → xs ≡ ys → DifferAt at xs ys → ⊥
never_differ at xs ys same d = d.other (ap (λ l. slice_get l at) same)

renews_once : (bytes : List ℕ) (image : Image) (next : Verdict → Type 0) (a b : Verdict) → (next a → next b → Alike a b) → Renews bytes image next a → Renews bytes image next b → Alike a b
renews_once bytes image next a b one (AreTheSame same h) (AreTheSame same' k) = one h k
renews_once bytes image next a b one (AreTheSame same h) (Differ at d f) = absurd (never_differ at bytes _ same d)
renews_once bytes image next a b one (Differ at d e) (AreTheSame same k) = absurd (never_differ at bytes _ same d)
renews_once bytes image next a b one (Differ at d e) (Differ other d' f) = two a b _ _ (ap (λ n. Refuses (OtherImage n)) (same_place at other bytes _ d d' (ordered at other))) e f

-- texts are replied to in one way
reply_once : (laws : Laws) (choice : Choice) (steps : ℕ) (texts : List (List ℕ)) (one other : Reply) → IsRunReply choice steps texts one → IsRunReply choice steps texts other → one ≡ other
reply_once laws choice steps texts one other h k =
    let same = texts_once laws choice choice refl refl refl texts (λ made. ImageComesTo (Some []) steps made.image) (λ made. ImageComesTo (Some []) steps made.image) h.verdict k.verdict
    (λ made again is also i j. image_once [] steps again.image h.verdict k.verdict (subst (λ m. ImageComesTo (Some []) steps m h.verdict) (laws.image choice choice texts made again refl refl refl is also).0 i) j) h.comes k.comes in
    h.is ∙ (λ i. cut_reply (status_of (same.cause i)) (same.written i)) ∙ sym k.is

module _ (laws : Laws) (held : Held) (left : List ℕ) (a b : Verdict) where
  -- what texts come to by the image that they have
  by_image : (choice : Choice) (texts : List (List ℕ)) (next : Image → Verdict → Type 0) → ((image : Image) → next image a → next image b → Alike a b)
      → TextsComeTo choice (λ made. next made.image) texts a → TextsComeTo choice (λ made. next made.image) texts b → Alike a b
  by_image choice texts next one x y =
      texts_once laws choice choice refl refl refl texts (λ made. next made.image) (λ made. next made.image) a b
      (λ made other is also i j. one other.image (subst (λ m. next m a) (laws.image choice choice texts made other refl refl refl is also).0 i) j) x y

  -- an audit comes to one thing
  audit_once : (of : AuditOf) (name : List ℕ) (files : List (List ℕ)) → AuditComesTo (Some held) of name files a → AuditComesTo (Some held) of name files b → Alike a b
  audit_once of name files (AreTooManyModules many e) (AreTooManyModules many' f) = both a b _ e f
  audit_once of name files (AreTooManyModules many e) (LacksNotes few none f) = absurd (omega (arith, many, few))
  audit_once of name files (AreTooManyModules many e) (LacksTexts bytes c few there comes f) = absurd (omega (arith, many, few))
  audit_once of name files (AreTooManyModules many e) (HasTexts bytes texts there are k) = let few = are.few in absurd (omega (arith, many, few))
  audit_once of name files (LacksNotes few none e) (AreTooManyModules many f) = absurd (omega (arith, many, few))
  audit_once of name files (LacksNotes few none e) (LacksNotes few' none' f) = both a b _ e f
  audit_once of name files (LacksNotes few none e) (LacksTexts bytes c few' there comes f) = absurd (not_held bytes _ none there)
  audit_once of name files (LacksNotes few none e) (HasTexts bytes texts there are k) = absurd (not_held bytes _ none there)
  audit_once of name files (LacksTexts bytes c few there comes e) (AreTooManyModules many f) = absurd (omega (arith, many, few))
  audit_once of name files (LacksTexts bytes c few there comes e) (LacksNotes few' none f) = absurd (not_held bytes _ none there)
  audit_once of name files (LacksTexts bytes c few there comes e) (LacksTexts other d few' there' comes' f) =
      two a b _ _ (ap (λ x. Refuses (one_behind x)) (files_once held files Nothing (Refuses c) (Refuses d) (λ texts x y. absurd x) comes comes').cause) e f
  audit_once of name files (LacksTexts bytes c few there comes e) (HasTexts other texts there' are k) = absurd (texts_there held files Nothing texts (Refuses c) are comes)
  audit_once of name files (HasTexts bytes texts there are h) (AreTooManyModules many f) = let few = are.few in absurd (omega (arith, many, few))
  audit_once of name files (HasTexts bytes texts there are h) (LacksNotes few none f) = absurd (not_held bytes _ none there)
  audit_once of name files (HasTexts bytes texts there are h) (LacksTexts other c few there' comes f) = absurd (texts_there held files Nothing texts (Refuses c) are comes)
  audit_once of name files (HasTexts bytes texts there are h) (HasTexts other others there' are' k) =
      let at : PlanComesTo of other texts b = texts_there held files (PlanComesTo of other) texts b are (HaveTexts others are' k) in
      let plan : PlanComesTo of bytes texts b = subst (λ x. PlanComesTo of x texts b) (some_held bytes other _ there there') at in
      subst (Alike a) (laws.audit of bytes texts a b h plan) (alike a)

  pub once : (asked : Option Asked) → ComesTo (world (Some held) (Some left)) asked a → ComesTo (world (Some held) (Some left)) asked b → Alike a b
  once None h k = both a b _ h k
  once (Some (Run files choice steps)) h k =
      files_once held files (TextsComeTo choice (λ made. ImageComesTo (Some left) steps made.image)) a b
      (λ texts x y. by_image choice texts (ImageComesTo (Some left) steps) (λ image i j. image_once left steps image a b i j) x y) h k
  once (Some (Build out files choice None None)) h k =
      files_once held files (TextsComeTo choice (λ made. Written out made.image)) a b
      (λ texts x y. by_image choice texts (Written out) (λ image i j. both a b _ i j) x y) h k
  once (Some (Build out files choice (Some from) None)) h k =
      files_once held files (AnewComesTo (Some held) choice out from (length files)) a b
      (λ texts x y. file_once held (length files) from _ a b
      (λ bytes u v. by_image choice texts (λ image. Renews bytes image (Written out image)) (λ image i j. renews_once bytes image (Written out image) a b (both a b _) i j) u v) x y) h k
  once (Some (Build out files choice None (Some notes))) h k =
      files_once held files (NotedComeTo choice (NotesWritten out notes)) a b
      (λ texts x y. noted_once laws choice texts (λ image. WrittenWith out image notes) a b (λ image bytes i j. both a b _ i j) x y) h k
  once (Some (Build out files choice (Some from) (Some notes))) h k =
      files_once held files (NotedAnewComeTo (Some held) choice out notes from (length files)) a b
      (λ texts x y. file_once held (length files) from _ a b
      (λ old u v. noted_once laws choice texts (λ image bytes. Renews old image (WrittenWith out image notes bytes)) a b
      (λ image bytes i j. renews_once old image (WrittenWith out image notes bytes) a b (both a b _) i j) u v) x y) h k
  once (Some (Elf out files choice)) h k =
      files_once held files (TextsComeTo choice (λ made. WrittenElf out made.image)) a b
      (λ texts x y. by_image choice texts (WrittenElf out) (λ image i j. both a b _ i j) x y) h k
  once (Some (Exec image steps)) h k = file_once held 0 image _ a b (λ bytes. bytes_once left steps bytes a b) h k
  once (Some (Traces files choice)) h k = files_once held files (TracesComeTo choice) a b (λ texts x y. traces_once laws choice texts a b x y) h k
  once (Some (Bulk seed size choice steps)) h k =
      texts_once laws choice choice refl refl refl (bulk_text seed size ∷ []) (SummaryComesTo steps) (SummaryComesTo steps) a b
      (λ made other is also i j. two a b _ _ (told_same steps made other (laws.image choice choice (bulk_text seed size ∷ []) made other refl refl refl is also)) i j) h k
  once (Some (Audit out notes files builder regs)) h k = audit_once (audit_of out builder regs) notes files h k
  once (Some (Object out files choice)) h k =
      files_once held files (ObjectComesTo choice out) a b (λ texts x y. subst (Alike a) (laws.object choice out texts a b x y) (alike a)) h k
  once (Some (Link out objects)) h k = subst (Alike a) (laws.link held out objects a b h k) (alike a)
  once (Some (Mean files turns)) h k =
      files_once held files (MeanComeTo (Some left) turns) a b (λ texts x y. subst (Alike a) (laws.meaning left turns texts a b x y) (alike a)) h k
  once (Some (Both files choice steps turns)) h k =
      files_once held files (BothComeTo (Some left) choice steps turns) a b (λ texts x y. subst (Alike a) (laws.comparison left choice steps turns texts a b x y) (alike a)) h k
  once (Some (Batch list choice steps)) h k = subst (Alike a) (batch_once held choice steps (reply_once laws choice steps) list a b h k) (alike a)
  once (Some (Check files format)) h k =
      files_once held files (CheckComesTo format files) a b (λ texts x y. subst (Alike a) (laws.check format files texts a b x y) (alike a)) h k
  once (Some (Explain topic)) h k = both a b _ h k
  once (Some (Compare files jobs steps)) h k =
      files_once held files (ComparesComeTo (Some left) jobs steps) a b (λ texts x y. subst (Alike a) (laws.compare left jobs steps texts a b x y) (alike a)) h k
  once (Some (Show out files choice against)) h k =
      files_once held files (ShowComesTo choice against out files) a b (λ texts x y. subst (Alike a) (laws.show choice against out files texts a b x y) (alike a)) h k
  once (Some Help) h k = both a b _ h k

---- `exec` of what `build` wrote

-- an image in form is no longer than a file of images may be
image_fits : (image : Image) → IsInForm image → length (image_bytes image) ≤ most_image
image_fits image form =
    let long = length_of_image image in
    let header = header_is_short image.version in
    let code = form.code in
    let constants = form.constants in
    let places = few_places image form.version in
    omega (arith, long, header, code, constants, places)
  where
    few_places : (image : Image) → IsVersionOne image ⊎ IsVersionTwo image → length image.places ≤ 4096
    few_places image (inl one) = let none = ap length one.places in omega (arith, none)
    few_places image (inr other) = other.few_places

same_bytes : (name one other bytes : List ℕ) → Writes name one ≡ Writes other bytes → one ≡ bytes
same_bytes name one other bytes e = cc

not_refused : (name bytes : List ℕ) (cause : Cause) → Writes name bytes ≡ Refuses cause → ⊥
not_refused name bytes cause e = cc

module _ (one_image : (a b : Choice) (texts : List (List ℕ)) (made other : Compiled) → a.policy ≡ b.policy → a.builder ≡ b.builder → a.regs ≡ b.regs
    → IsImageOfTexts a texts made → IsImageOfTexts b texts other → (made.image ≡ other.image) × (made.procedures ≡ other.procedures) × (made.traces ≡ other.traces))
    (excluded : (a b : Choice) (texts : List (List ℕ)) (made : Compiled) (r : Refusal) → a.policy ≡ b.policy → a.builder ≡ b.builder → a.regs ≡ b.regs
    → IsImageOfTexts a texts made → IsRefusal b texts r → r ≡ NoMemory)
    (held later : Held) (left : List ℕ) (out bytes : List ℕ) (choice other : Choice) (steps : ℕ) (ran executed : Verdict)
    (policy : choice.policy ≡ other.policy) (builder : choice.builder ≡ other.builder) (regs : choice.regs ≡ other.regs) (there : later out ≡ Some bytes) where
  -- the image that was written is the one that is read
  exec_bytes : (image : Image) → IsInForm image → IsOfWords image → bytes ≡ image_bytes image → ImageComesTo (Some left) steps image ran
      → BytesComeTo (Some left) steps bytes executed → Alike ran executed
  exec_bytes image form words is h (AreNoImage broken fault e) = absurd (no_broken broken (sym fault ∙ image_has_no_fault bytes image form is))
  exec_bytes image form words is h (AreAnImage found form' words' is' i) =
      image_once left steps image ran executed h (subst (λ x. ImageComesTo (Some left) steps x executed) (images_are_same found image form' form words' words (sym is' ∙ is)) i)

  exec_file : (image : Image) → IsInForm image → IsOfWords image → bytes ≡ image_bytes image → ImageComesTo (Some left) steps image ran
      → FileComesTo (Some later) 0 out (BytesComeTo (Some left) steps) executed → Alike ran executed
  exec_file image form words is h (IsMissing none e) = absurd (not_held bytes _ none there)
  exec_file image form words is h (HasTooMany found is' many e) =
      let same = ap length (some_held bytes found _ there is' ∙ is) in
      let size = image_fits image form in
      absurd (omega (arith, many, size, same))
  exec_file image form words is h (HasBytes found is' few i) = exec_bytes image form words is h (subst (λ x. BytesComeTo (Some left) steps x executed) (some_held bytes found _ there is') i)

  exec_image : (texts : List (List ℕ)) (made : Compiled) → IsImageOfTexts choice texts made → image_bytes made.image ≡ bytes
      → TextsComeTo other (λ m. ImageComesTo (Some left) steps m.image) texts ran → FileComesTo (Some later) 0 out (BytesComeTo (Some left) steps) executed → Alike ran executed
  exec_image texts made is w (HaveNoImage r) x = absurd (r.tells (excluded choice other texts made r.refusal policy builder regs is r.is))
  exec_image texts made is w (HaveImage again also i) x =
      exec_file made.image is.form is.words (sym w) (subst (λ m. ImageComesTo (Some left) steps m ran) (sym (one_image choice other texts made again policy builder regs is also).0) i) x

  -- whatever texts come to that is a file of their image
  exec_texts : (next : Image → Verdict → Type 0) → ((image : Image) → next image (Writes out bytes) → image_bytes image ≡ bytes) → (texts : List (List ℕ))
      → TextsComeTo choice (λ m. next m.image) texts (Writes out bytes)
      → TextsComeTo other (λ m. ImageComesTo (Some left) steps m.image) texts ran → FileComesTo (Some later) 0 out (BytesComeTo (Some left) steps) executed → Alike ran executed
  exec_texts next wrote texts (HaveNoImage r) y x = absurd (not_refused out bytes (cause_of_refusal r.refusal) r.verdict_is)
  exec_texts next wrote texts (HaveImage made is w) y x = exec_image texts made is (wrote made.image w) y x

  written_as : (image : Image) → Written out image (Writes out bytes) → image_bytes image ≡ bytes
  written_as image w = sym (same_bytes out bytes out (image_bytes image) w)

  renewed_as : (from : List ℕ) (image : Image) → Renews from image (Written out image) (Writes out bytes) → image_bytes image ≡ bytes
  renewed_as from image (AreTheSame same w) = written_as image w
  renewed_as from image (Differ at d e) = absurd (not_refused out bytes _ e)

  exec_anew : (number : ℕ) (from : List ℕ) (texts : List (List ℕ)) → AnewComesTo (Some held) choice out from number texts (Writes out bytes)
      → TextsComeTo other (λ m. ImageComesTo (Some left) steps m.image) texts ran → FileComesTo (Some later) 0 out (BytesComeTo (Some left) steps) executed → Alike ran executed
  exec_anew number from texts (IsMissing none e) y x = absurd (not_refused out bytes _ e)
  exec_anew number from texts (HasTooMany found is many e) y x = absurd (not_refused out bytes _ e)
  exec_anew number from texts (HasBytes found is few w) y x = exec_texts (λ image. Renews found image (Written out image)) (renewed_as found) texts w y x

  exec_files : (files : List (List ℕ)) (comes : List (List ℕ) → Verdict → Type 0)
      → ((texts : List (List ℕ)) → comes texts (Writes out bytes) → TextsComeTo other (λ m. ImageComesTo (Some left) steps m.image) texts ran
      → FileComesTo (Some later) 0 out (BytesComeTo (Some left) steps) executed → Alike ran executed)
      → FilesComeTo (Some held) files comes (Writes out bytes)
      → FilesComeTo (Some held) files (TextsComeTo other (λ m. ImageComesTo (Some left) steps m.image)) ran → FileComesTo (Some later) 0 out (BytesComeTo (Some left) steps) executed → Alike ran executed
  exec_files files comes one (AreTooManyFiles many e) y x = absurd (not_refused out bytes _ e)
  exec_files files comes one (LacksOne number name reached none e) y x = absurd (not_refused out bytes _ e)
  exec_files files comes one (HasALongOne number name text reached is long e) y x = absurd (not_refused out bytes _ e)
  exec_files files comes one (HaveTexts texts are w) y x = let read = texts_there held files (TextsComeTo other (λ m. ImageComesTo (Some left) steps m.image)) texts ran are y in one texts w read x

  pub exec_is_run : (files : List (List ℕ)) (from : Option (List ℕ)) → ComesTo (world (Some held) (Some left)) (Some (Build out files choice from None)) (Writes out bytes)
      → ComesTo (world (Some held) (Some left)) (Some (Run files other steps)) ran → ComesTo (world (Some later) (Some left)) (Some (Exec out steps)) executed → Alike ran executed
  exec_is_run files None w y x = exec_files files _ (exec_texts (Written out) written_as) w y x
  exec_is_run files (Some from) w y x = exec_files files _ (exec_anew (length files) from) w y x

pub quiet : (asked : Option Asked) (old new : Devices) (cause : Cause) → NoneFailed old new → Answers (λ l. ComesTo (world old.held l) asked) old new cause
    → (cause ≡ Memory) ⊎ ((verdict : Verdict) × ComesTo (world old.held old.left) asked verdict × (cause ≡ cause_of verdict) × AllDone old verdict new)
quiet asked old new cause none (AsItComes verdict it is done) = inr (verdict, it, is, done)
quiet asked old new cause none (FailsReadingFiles is rose nothing still) = absurd (none.none Files rose)
quiet asked old new cause none (FailsReadingInput reads is rose nothing) = absurd (none.none Input rose)
quiet asked old new cause none (FailsPrinting verdict it is cut) = absurd (none.none Output cut.failed)
quiet asked old new cause none (FailsWriting verdict name bytes rest it first is failed) = absurd (none.none Files failed.failed)
quiet asked old new cause none (FailsWritingSecond name bytes other others it is failed) = absurd (none.none Files failed.failed)
quiet asked old new cause none (LacksMemoryBetween name bytes other others it is half) = inl is
quiet asked old new cause none (LacksMemoryInside reads ended written it is short) = inl is
quiet asked old new cause none (LacksMemory is nothing either) = inl is
