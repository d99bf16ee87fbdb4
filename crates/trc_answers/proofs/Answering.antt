-- What the answers of a part are for the whole.
use Rattle.std.proofs.Common.{◌≡◌, ℕ, suc, zero, ◌+◌, ◌<◌, ◌≤◌, Bool, true, false, List, [], ◌∷◌, length, Option, Some, None, Ok, Err, Vec, Global, ◌++◌, length-append, ◌⊎◌, inl, inr, refl, sym, ap, ◌∙◌, subst, arith}
use Rattle.std.proofs.lemmas.List.{append-nil}
use Rattle.outside.specs.Counts.{Rose}
use Rattle.outside.specs.Files.{Held, ToldOfRead, ToldOfWrite}
use Rattle.outside.specs.Source.{Gave, GaveSome, IsAtEnd}
use Rattle.outside.specs.Sink.{Account, TookNothing}
use Rattle.outside.proofs.Taking.{all_none}
use Rattle.outside.specs.declared.files.GetFault.TheVariants as get
use Rattle.outside.specs.declared.files.PutFault.{PutFault}
use Rattle.outside.specs.declared.files.PutFault.TheVariants as put
use Rattle.image_file.specs.Rules.{first_fault}
use Rattle.image_file.specs.Rules.{Refuses as BreaksRule}
use Rattle.image_file.specs.Spelling.{image_bytes, in_version_one}
use Rattle.image_file.specs.Differing.{DifferAt}
use Rattle.image_file.specs.declared.fault.ImageFault.{ImageFault}
use Rattle.image_file.specs.declared.fault.ImageFault.TheVariants.{Fault}
use Rattle.image_file.specs.declared.fault.ImageFault.TheVariants as image_fault
use Rattle.run_laws.specs.Runs.{Outcome}
use Rattle.a64_memory.specs.Memory.{AreBytes}
use Rattle.image_form.specs.declared.image.Image.{Image}
use Rattle.image_form.specs.declared.image.ProcPlace.{ProcPlace}
use Rattle.a64_machine.specs.State.{Trap}
use Rattle.trc_answers.specs.Runs.{run_of, cause_of_fault}
use Rattle.trc_answers.specs.Causes.{cause_of_put}
use Rattle.trc_answers.specs.Verdict.{Verdict, Refuses, Finds, Runs, Means, Writes, WritesBoth, Accepts, Prints, Tells, files_written, sound_line, FileComesTo, IsMissing, HasTooMany, HasBytes, IsHeld, IsLeft, ImageComesTo, RunsAlone, RunsOnInput, HasTooMuch, BytesComeTo, AreNoImage, IsWritten, Written, Renews, AreTheSame, Differ}
use Rattle.trc_answers.specs.Reading.{IsImageRead, NoBytes, IsImageUnread, IsNoFile, FailedOnce, HasNoMemory}
use Rattle.trc_answers.specs.Answers.{Devices, devices, Answers, AsItComes, ReadsInput, FailsReadingFiles, FailsReadingInput, FailsPrinting, FailsWriting, FailsWritingSecond, LacksMemoryBetween, LacksMemoryInside, LacksMemory, InputStays, FilesHold, FirstFailed, SecondFailed, RunAnswers, Ran, RanIntoFault, HadNoRoom, PrintAnswers, Printed, PrintedAFront}
use Rattle.trc_answers.specs.declared.causes.Device.TheVariants.{Files, Input, Output}
use Rattle.trc_answers.specs.declared.causes.Cause.{Cause}
use Rattle.trc_answers.specs.declared.causes.Cause.TheVariants.{NoSuchFile, ReadFault, OtherImage, NotImage, InputTooLong, WriteFault, Memory, Done}

pub nothing : (out : Account) → TookNothing out out
nothing out = record { taken = refl; amount = refl }

pub stays : (t : Devices) → InputStays t t
stays t = record { left = refl; faults = refl }

-- a command is refused, and nothing changed but the files' count of faults
pub refuses : (comes : Option (List ℕ) → Verdict → Type 0) (held mid : Option Held) (m n : ℕ) (left : Option (List ℕ)) (k : ℕ) (out : Account) (cause : Cause)
    → mid ≡ held → comes left (Refuses cause) → Answers comes (devices held m left k out) (devices mid n left k out) cause
refuses comes held mid m n left k out cause same it = AsItComes (Refuses cause) it refl (record { written = all_none out; files = same; input = λ e. record { left = refl; faults = refl } })

-- the files failed while they were read
pub files_failed : (comes : Option (List ℕ) → Verdict → Type 0) (held mid : Option Held) (m n : ℕ) (left : Option (List ℕ)) (k : ℕ) (out : Account)
    → mid ≡ held → Rose m n → Answers comes (devices held m left k out) (devices mid n left k out) (ReadFault Files)
files_failed comes held mid m n left k out same rose = FailsReadingFiles refl rose (record { output = nothing out; files = same }) (record { left = refl; faults = refl })

-- the input failed while it was read
pub input_failed : (comes : Option (List ℕ) → Verdict → Type 0) (held : Option Held) (m : ℕ) (left left' : Option (List ℕ)) (k k' : ℕ) (out : Account)
    → ReadsInput comes → Rose k k' → Answers comes (devices held m left k out) (devices held m left' k' out) (ReadFault Input)
input_failed comes held m left left' k k' out reads rose = FailsReadingInput reads refl rose (record { output = nothing out; files = refl })

-- there was no memory, with the input as it was or not
pub lacks : (comes : Option (List ℕ) → Verdict → Type 0) (held mid : Option Held) (m n : ℕ) (left : Option (List ℕ)) (k : ℕ) (out : Account) (cause : Cause)
    → cause ≡ Memory → mid ≡ held → Answers comes (devices held m left k out) (devices mid n left k out) cause
lacks comes held mid m n left k out cause is same = LacksMemory is (record { output = nothing out; files = same }) (inl (record { left = refl; faults = refl }))

pub lacks_reading : (comes : Option (List ℕ) → Verdict → Type 0) (held : Option Held) (m : ℕ) (left left' : Option (List ℕ)) (k k' : ℕ) (out : Account)
    → ReadsInput comes → Answers comes (devices held m left k out) (devices held m left' k' out) Memory
lacks_reading comes held m left left' k k' out reads = LacksMemory refl (record { output = nothing out; files = refl }) (inr reads)

-- from a run to the command
pub runs : (comes : Option (List ℕ) → Verdict → Type 0) (reads : Bool) (places : List ProcPlace) (outcome : Outcome Trap) (held : Option Held) (m : ℕ) (left left' : Option (List ℕ)) (k k' : ℕ) (a b : Account) (cause : Cause)
    → comes left (Runs reads places outcome) → (reads ≡ false → InputStays (devices held m left k a) (devices held m left' k' b))
    → InputStays (devices held m left k a) (devices held m left' k' b) ⊎ ReadsInput comes → RunAnswers places outcome a b cause
    → Answers comes (devices held m left k a) (devices held m left' k' b) cause
runs comes reads places outcome held m left left' k k' a b cause it still either (Ran is took) = AsItComes (Runs reads places outcome) it is (record { written = took; files = refl; input = still })
runs comes reads places outcome held m left left' k k' a b cause it still either (RanIntoFault is took rose) = FailsPrinting (Runs reads places outcome) it is (record { front = took; failed = rose; files = refl; input = still })
runs comes reads places outcome held m left left' k k' a b cause it still either (HadNoRoom is took) = LacksMemory is (record { output = took; files = refl }) either

-- from lines that are printed to the command
pub prints : (comes : Option (List ℕ) → Verdict → Type 0) (lines : List ℕ) (held : Option Held) (m : ℕ) (left : Option (List ℕ)) (k : ℕ) (a b : Account) (cause : Cause)
    → comes left (Prints lines) → PrintAnswers lines a b cause → Answers comes (devices held m left k a) (devices held m left k b) cause
prints comes lines held m left k a b cause it (Printed is took) = AsItComes (Prints lines) it is (record { written = took; files = refl; input = λ e. record { left = refl; faults = refl } })
prints comes lines held m left k a b cause it (PrintedAFront is took rose) = FailsPrinting (Prints lines) it is (record { front = took; failed = rose; files = refl; input = λ e. record { left = refl; faults = refl } })

-- what a part comes to, the whole does
reads_as : (comes comes' : Option (List ℕ) → Verdict → Type 0) → ((left : Option (List ℕ)) (v : Verdict) → comes left v → comes' left v) → ReadsInput comes → ReadsInput comes'
reads_as comes comes' f r = record { verdict = r.verdict; comes = f None r.verdict r.comes; reads = r.reads }

either_as : (comes comes' : Option (List ℕ) → Verdict → Type 0) (still : Type 0) → ((left : Option (List ℕ)) (v : Verdict) → comes left v → comes' left v) → still ⊎ ReadsInput comes → still ⊎ ReadsInput comes'
either_as comes comes' still f (inl x) = inl x
either_as comes comes' still f (inr r) = inr (reads_as comes comes' f r)

pub mapped : (comes comes' : Option (List ℕ) → Verdict → Type 0) (old new : Devices) (cause : Cause) → ((left : Option (List ℕ)) (v : Verdict) → comes left v → comes' left v) → Answers comes old new cause → Answers comes' old new cause
mapped comes comes' old new cause f (AsItComes verdict it is done) = AsItComes verdict (f old.left verdict it) is done
mapped comes comes' old new cause f (FailsReadingFiles is rose none still) = FailsReadingFiles is rose none still
mapped comes comes' old new cause f (FailsReadingInput reads is rose none) = FailsReadingInput (reads_as comes comes' f reads) is rose none
mapped comes comes' old new cause f (FailsPrinting verdict it is cut) = FailsPrinting verdict (f old.left verdict it) is cut
mapped comes comes' old new cause f (FailsWriting verdict name bytes rest it first is failed) = FailsWriting verdict name bytes rest (f old.left verdict it) first is failed
mapped comes comes' old new cause f (FailsWritingSecond name bytes other others it is failed) = FailsWritingSecond name bytes other others (f old.left (WritesBoth name bytes other others) it) is failed
mapped comes comes' old new cause f (LacksMemoryBetween name bytes other others it is half) = LacksMemoryBetween name bytes other others (f old.left (WritesBoth name bytes other others) it) is half
mapped comes comes' old new cause f (LacksMemoryInside reads ended written it is short) = LacksMemoryInside reads ended written (f old.left (Means reads ended written) it) is short
mapped comes comes' old new cause f (LacksMemory is none either) = LacksMemory is none (either_as comes comes' (InputStays old new) f either)

rose_later : (a b c : ℕ) → a ≤ b → Rose b c → Rose a c
rose_later a b c l rose = omega (arith, l, rose)

files_later : (held : Option Held) (m n : ℕ) (left : Option (List ℕ)) (k : ℕ) (out : Account) (new : Devices) (verdict : Verdict)
    → FilesHold (devices held n left k out) verdict new → FilesHold (devices held m left k out) verdict new
files_later held m n left k out new (Refuses cause) h = h
files_later held m n left k out new (Finds cause line) h = h
files_later held m n left k out new (Runs reads places outcome) h = h
files_later held m n left k out new (Means reads cause written) h = h
files_later held m n left k out new (Writes name bytes) h = h
files_later held m n left k out new (WritesBoth name bytes other others) h = h
files_later held m n left k out new (Accepts name bytes) h = h
files_later held m n left k out new (Prints lines) h = h
files_later held m n left k out new (Tells reads lines) h = h

input_later : (held : Option Held) (m n : ℕ) (left : Option (List ℕ)) (k : ℕ) (out : Account) (new : Devices)
    → InputStays (devices held n left k out) new → InputStays (devices held m left k out) new
input_later held m n left k out new h = record { left = h.left; faults = h.faults }

either_later : (held : Option Held) (m n : ℕ) (left : Option (List ℕ)) (k : ℕ) (out : Account) (new : Devices) (other : Type 0)
    → InputStays (devices held n left k out) new ⊎ other → InputStays (devices held m left k out) new ⊎ other
either_later held m n left k out new other (inl x) = inl (input_later held m n left k out new x)
either_later held m n left k out new other (inr x) = inr x

-- the files' count of faults was lower before
pub later : (comes : Option (List ℕ) → Verdict → Type 0) (held : Option Held) (m n : ℕ) (left : Option (List ℕ)) (k : ℕ) (out : Account) (new : Devices) (cause : Cause) → m ≤ n
    → Answers comes (devices held n left k out) new cause → Answers comes (devices held m left k out) new cause
later comes held m n left k out new cause l (AsItComes verdict it is done) = AsItComes verdict it is (record { written = done.written; files = files_later held m n left k out new verdict done.files; input = λ e. input_later held m n left k out new (done.input e) })
later comes held m n left k out new cause l (FailsReadingFiles is rose none still) = FailsReadingFiles is (rose_later m n new.files_faults l rose) (record { output = none.output; files = none.files }) (input_later held m n left k out new still)
later comes held m n left k out new cause l (FailsReadingInput reads is rose none) = FailsReadingInput reads is rose (record { output = none.output; files = none.files })
later comes held m n left k out new cause l (FailsPrinting verdict it is cut) = FailsPrinting verdict it is (record { front = cut.front; failed = cut.failed; files = files_later held m n left k out new verdict cut.files; input = λ e. input_later held m n left k out new (cut.input e) })
later comes held m n left k out new cause l (FailsWriting verdict name bytes rest it first is failed) =
    FailsWriting verdict name bytes rest it first is (record { failed = rose_later m n new.files_faults l failed.failed; output = failed.output; files = failed.files; input = input_later held m n left k out new failed.input })
later comes held m n left k out new cause l (FailsWritingSecond name bytes other others it is failed) =
    FailsWritingSecond name bytes other others it is (record { between = failed.between; first = failed.first; second = failed.second; failed = rose_later m n new.files_faults l failed.failed; output = failed.output; input = input_later held m n left k out new failed.input })
later comes held m n left k out new cause l (LacksMemoryBetween name bytes other others it is half) =
    LacksMemoryBetween name bytes other others it is (record { first = half.first; output = half.output; input = input_later held m n left k out new half.input })
later comes held m n left k out new cause l (LacksMemoryInside reads ended written it is short) =
    LacksMemoryInside reads ended written it is (record { front = short.front; files = short.files; input = λ e. input_later held m n left k out new (short.input e) })
later comes held m n left k out new cause l (LacksMemory is none either) = LacksMemory is (record { output = none.output; files = none.files }) (either_later held m n left k out new (ReadsInput comes) either)

-- what is held under a name that was read
pub held_bytes : (held : Option Held) (name : List ℕ) (most : ℕ) (bytes : Vec ℕ Global) → ToldOfRead held name most (Ok bytes) → IsHeld held name (Some bytes.items)
held_bytes None name most bytes r = tt
held_bytes (Some h) name most bytes r = r

-- where nothing is held under the name
pub missing : (held : Option Held) (number : ℕ) (name : List ℕ) (most : ℕ) (next : List ℕ → Verdict → Type 0) → ToldOfRead held name most (Err get.NoSuchFile) → FileComesTo held number name next (Refuses (NoSuchFile number))
missing None number name most next r = IsMissing tt refl
missing (Some h) number name most next r = IsMissing r refl

-- a file that was read, and what its bytes come to
pub reads_file : (held mid : Option Held) (number : ℕ) (name : List ℕ) (m n : ℕ) (left : Option (List ℕ)) (k : ℕ) (out : Account) (new : Devices) (cause : Cause) (bytes text : List ℕ) (next : Option (List ℕ) → List ℕ → Verdict → Type 0)
    → mid ≡ held → IsImageRead held name bytes → text ≡ bytes → m ≤ n → Answers (λ l. next l text) (devices mid n left k out) new cause
    → Answers (λ l. FileComesTo held number name (next l)) (devices held m left k out) new cause
reads_file held mid number name m n left k out new cause bytes text next same r e l answers =
    later _ held m n left k out new cause l
    (mapped (λ l. next l text) (λ l. FileComesTo held number name (next l)) (devices held n left k out) new cause
    (λ l v it. HasBytes bytes r.is r.within (subst (λ b. next l b v) e it))
    (subst (λ h. Answers (λ l. next l text) (devices h n left k out) new cause) same answers))

no_bytes : (held : Option Held) (number : ℕ) (name : List ℕ) (next : List ℕ → Verdict → Type 0) (v : Verdict) → FileComesTo held number name NoBytes v → FileComesTo held number name next v
no_bytes held number name next v (IsMissing none e) = IsMissing none e
no_bytes held number name next v (HasTooMany bytes is many e) = HasTooMany bytes is many e
no_bytes held number name next v (HasBytes bytes is few none) = absurd none

-- the file of an image wasn't read
pub unread_image : (held mid : Option Held) (number : ℕ) (name : List ℕ) (m n : ℕ) (cause : Cause) (next : Option (List ℕ) → List ℕ → Verdict → Type 0) → mid ≡ held → IsImageUnread held number name m n cause
    → (left : Option (List ℕ)) (k : ℕ) (out : Account) → Answers (λ l. FileComesTo held number name (next l)) (devices held m left k out) (devices mid n left k out) cause
unread_image held mid number name m n cause next same (IsNoFile comes) left k out =
    refuses (λ l. FileComesTo held number name (next l)) held mid m n left k out cause same (no_bytes held number name (next left) (Refuses cause) comes)
unread_image held mid number name m n cause next same (FailedOnce rose e) left k out =
    subst (Answers (λ l. FileComesTo held number name (next l)) (devices held m left k out) (devices mid n left k out)) (sym e) (files_failed (λ l. FileComesTo held number name (next l)) held mid m n left k out same rose)
unread_image held mid number name m n cause next same (HasNoMemory e) left k out = lacks (λ l. FileComesTo held number name (next l)) held mid m n left k out cause e same

list_of : (n : ℕ) → (bytes : List ℕ) × (length bytes ≡ n)
list_of zero = ([], refl)
list_of (suc n) = let r = list_of n in (0 ∷ r.0, ap suc r.1)

-- some bytes are held under a name that was found too long
pub long_bytes : (held : Option Held) (name : List ℕ) (most : ℕ) → ToldOfRead held name most (Err get.TooLong) → (bytes : List ℕ) × IsHeld held name (Some bytes) × (most < length bytes)
long_bytes None name most r = let some = list_of (suc most) in (some.0, tt, omega (arith, some.1))
long_bytes (Some h) name most r = r

-- a file that is longer than an image may be is none
pub long_image : (held : Option Held) (number : ℕ) (name : List ℕ) (next : List ℕ → Verdict → Type 0) → ToldOfRead held name 16777216 (Err get.TooLong) → FileComesTo held number name next (Refuses (NotImage 65 16777216))
long_image held number name next r = let long = long_bytes held name 16777216 r in HasTooMany long.0 long.1 long.2 refl

same_some : (xs ys : List ℕ) → Some xs ≡ Some ys → xs ≡ ys
same_some xs ys e = cc

-- an input that was read whole was left
pub whole_input : (old new : Option (List ℕ)) (bytes : List ℕ) → Gave old bytes new → IsAtEnd new → IsLeft old bytes
whole_input None new bytes gave end = tt
whole_input (Some old) None bytes gave end = let none = gave.1 in cc
whole_input (Some old) (Some left) bytes gave end =
    let rest_is : left ≡ gave.0 = same_some left gave.0 gave.1 in
    gave.2 ∙ ap (λ r. bytes ++ r) (sym rest_is ∙ end) ∙ append-nil bytes

longer : (old bytes rest : List ℕ) (most : ℕ) → old ≡ bytes ++ rest → length bytes ≡ most + 1 → most < length old
longer old bytes rest most e n = let sum = ap length e ∙ length-append bytes rest in omega (arith, sum, n)

-- of an input that was too long, so many bytes came
pub long_input : (old new : Option (List ℕ)) (most : ℕ) → GaveSome old new (λ n. n ≡ most + 1) → (input : List ℕ) × IsLeft old input × (most < length input)
long_input None new most gave = (gave.bytes, tt, let many = gave.so_many in omega (arith, many))
long_input (Some old) new most gave = (old, refl, longer old gave.bytes gave.gave.0 most gave.gave.2 gave.so_many)

-- flags are 0 or 1
pub other_flag : (flags : ℕ) → flags < 2 → (flags ≡ 0 → ⊥) → flags ≡ 1
other_flag flags l h = omega (arith, l, h)

-- an image that doesn't read the input was run
pub runs_alone : (left : Option (List ℕ)) (steps : ℕ) (image : Image) (items : List ℕ) (k : ℕ) (a b : Account) (cause : Cause)
    → image.flags ≡ 0 → items ≡ [] → RunAnswers image.places (run_of image items steps) a b cause
    → (held : Option Held) (faults : ℕ) → Answers (λ l. ImageComesTo l steps image) (devices held faults left k a) (devices held faults left k b) cause
runs_alone left steps image items k a b cause flag none ran held faults =
    runs (λ l. ImageComesTo l steps image) false image.places (run_of image [] steps) held faults left left k k a b cause (RunsAlone flag refl) (λ e. record { left = refl; faults = refl })
    (inl (record { left = refl; faults = refl }))
    (subst (λ i. RunAnswers image.places (run_of image i steps) a b cause) none ran)

-- an image whose flag says so reads the input
pub image_reads : (steps : ℕ) (image : Image) → image.flags < 2 → (image.flags ≡ 0 → ⊥) → ReadsInput (λ l. ImageComesTo l steps image)
image_reads steps image few flag = record {
  verdict = Runs true image.places (run_of image [] steps);
  comes = RunsOnInput [] (other_flag image.flags few flag) tt none_bytes (omega arith) refl;
  reads = refl;
}
  where
    none_bytes : AreBytes []
    none_bytes i = omega arith

-- it was run on the whole input
pub runs_on_input : (left left' : Option (List ℕ)) (steps : ℕ) (image : Image) (items : List ℕ) (k k' : ℕ) (a b : Account) (cause : Cause)
    → image.flags < 2 → (image.flags ≡ 0 → ⊥) → Gave left items left' → IsAtEnd left' → AreBytes items → length items ≤ 1048576 → RunAnswers image.places (run_of image items steps) a b cause
    → (held : Option Held) (faults : ℕ) → Answers (λ l. ImageComesTo l steps image) (devices held faults left k a) (devices held faults left' k' b) cause
runs_on_input left left' steps image items k k' a b cause few flag gave end are size ran held faults =
    runs (λ l. ImageComesTo l steps image) true image.places (run_of image items steps) held faults left left' k k' a b cause
    (RunsOnInput items (other_flag image.flags few flag) (whole_input left left' items gave end) are size refl) (λ e. absurd (true_false e)) (inr (image_reads steps image few flag)) ran
  where
    true_false : true ≡ false → ⊥
    true_false e = cc

-- the input was too long for an image
pub has_too_much : (left left' : Option (List ℕ)) (steps : ℕ) (image : Image) (k k' : ℕ) (out : Account)
    → image.flags < 2 → (image.flags ≡ 0 → ⊥) → GaveSome left left' (λ n. n ≡ 1048576 + 1)
    → (held : Option Held) (faults : ℕ) → Answers (λ l. ImageComesTo l steps image) (devices held faults left k out) (devices held faults left' k' out) InputTooLong
has_too_much left left' steps image k k' out few flag gave held faults =
    let long = long_input left left' 1048576 gave in
    AsItComes (Refuses InputTooLong) (HasTooMuch long.0 (other_flag image.flags few flag) long.1 long.2 refl) refl
    (record { written = all_none out; files = refl; input = λ e. absurd (true_false e) })
  where
    true_false : true ≡ false → ⊥
    true_false e = cc

-- bytes that are no image, or for which there is no memory
pub no_image : (left : Option (List ℕ)) (steps : ℕ) (bytes : List ℕ) (e : ImageFault) (cause : Cause) (k : ℕ) (out : Account)
    → cause ≡ cause_of_fault e → BreaksRule e (first_fault bytes)
    → (held : Option Held) (faults : ℕ) → Answers (λ l. BytesComeTo l steps bytes) (devices held faults left k out) (devices held faults left k out) cause
no_image left steps bytes (Fault number at) cause k out is fault held faults =
    subst (Answers (λ l. BytesComeTo l steps bytes) (devices held faults left k out) (devices held faults left k out)) (sym is)
    (refuses (λ l. BytesComeTo l steps bytes) held held faults faults left k out (NotImage number at) refl
    (AreNoImage (record { number = number; at = at }) fault refl))
no_image left steps bytes image_fault.Memory cause k out is fault held faults = lacks (λ l. BytesComeTo l steps bytes) held held faults faults left k out cause is refl

-- bytes were written
pub writes : (held held' : Option Held) (m n : ℕ) (name bytes : List ℕ) → ToldOfWrite held name bytes held' (Ok tt)
    → (left : Option (List ℕ)) (k : ℕ) (out : Account) → Answers (λ _. IsWritten name bytes) (devices held m left k out) (devices held' n left k out) Done
writes held held' m n name bytes tells left k out =
    AsItComes (Writes name bytes) refl refl (record { written = all_none out; files = tells; input = λ e. record { left = refl; faults = refl } })

-- the first of a verdict's files wasn't written
pub unwritten : (comes : Option (List ℕ) → Verdict → Type 0) (held held' : Option Held) (m n : ℕ) (verdict : Verdict) (name bytes : List ℕ) (rest : List (List ℕ × List ℕ)) (e : PutFault) (cause : Cause)
    → cause ≡ cause_of_put e → files_written verdict ≡ (name, bytes) ∷ rest → ToldOfWrite held name bytes held' (Err e) → (e ≡ put.Memory → held' ≡ held) → (e ≡ put.Failed → Rose m n)
    → (left : Option (List ℕ)) (k : ℕ) (out : Account) → comes left verdict → Answers comes (devices held m left k out) (devices held' n left k out) cause
unwritten comes held held' m n verdict name bytes rest put.Failed cause is first tells same rose left k out it =
    FailsWriting verdict name bytes rest it first is (record { failed = rose refl; output = nothing out; files = tells; input = record { left = refl; faults = refl } })
unwritten comes held held' m n verdict name bytes rest put.Memory cause is first tells same rose left k out it = lacks comes held held' m n left k out cause is (same refl)

-- both were
pub both_written : (held between held' : Option Held) (m n : ℕ) (name bytes other others : List ℕ) → ToldOfWrite held name bytes between (Ok tt) → ToldOfWrite between other others held' (Ok tt)
    → (left : Option (List ℕ)) (k : ℕ) (out : Account) → Answers (λ _ verdict. verdict ≡ WritesBoth name bytes other others) (devices held m left k out) (devices held' n left k out) Done
both_written held between held' m n name bytes other others first second left k out =
    AsItComes (WritesBoth name bytes other others) refl refl (record { written = all_none out; files = record { between = between; first = first; second = second }; input = λ e. record { left = refl; faults = refl } })

-- the second wasn't
pub second_unwritten : (held between held' : Option Held) (m p n : ℕ) (name bytes other others : List ℕ) (e : PutFault) (cause : Cause)
    → cause ≡ cause_of_put e → ToldOfWrite held name bytes between (Ok tt) → ToldOfWrite between other others held' (Err e) → (e ≡ put.Memory → held' ≡ between) → (e ≡ put.Failed → Rose p n) → m ≤ p
    → (left : Option (List ℕ)) (k : ℕ) (out : Account) → Answers (λ _ verdict. verdict ≡ WritesBoth name bytes other others) (devices held m left k out) (devices held' n left k out) cause
second_unwritten held between held' m p n name bytes other others put.Failed cause is first second same rose l left k out =
    FailsWritingSecond name bytes other others refl is (record { between = between; first = first; second = second; failed = rose_later m p n l (rose refl); output = nothing out; input = record { left = refl; faults = refl } })
second_unwritten held between held' m p n name bytes other others put.Memory cause is first second same rose l left k out =
    LacksMemoryBetween name bytes other others refl is (record { first = subst (λ h. ToldOfWrite held name bytes h (Ok tt)) (sym (same refl)) first; output = nothing out; input = record { left = refl; faults = refl } })

-- a file was written, and what it was made of is printed to be sound
pub accepts : (held held' : Option Held) (m n : ℕ) (name bytes : List ℕ) (left : Option (List ℕ)) (k : ℕ) (a b : Account) (cause : Cause) → ToldOfWrite held name bytes held' (Ok tt) → PrintAnswers sound_line a b cause
    → Answers (λ _ verdict. verdict ≡ Accepts name bytes) (devices held m left k a) (devices held' n left k b) cause
accepts held held' m n name bytes left k a b cause tells (Printed is took) =
    AsItComes (Accepts name bytes) refl is (record { written = took; files = tells; input = λ e. record { left = refl; faults = refl } })
accepts held held' m n name bytes left k a b cause tells (PrintedAFront is took rose) =
    FailsPrinting (Accepts name bytes) refl is (record { front = took; failed = rose; files = tells; input = λ e. record { left = refl; faults = refl } })

-- what was written is what was wanted
pub as_wanted : (comes : List ℕ → Verdict → Type 0) (bytes wanted : List ℕ) (old new : Devices) (cause : Cause) → bytes ≡ wanted → Answers (λ _. comes bytes) old new cause → Answers (λ _. comes wanted) old new cause
as_wanted comes bytes wanted old new cause same answers = subst (λ b. Answers (λ _. comes b) old new cause) same answers

-- they were those that were wanted
pub wrote : (name bytes wanted : List ℕ) (old new : Devices) (cause : Cause) → bytes ≡ wanted → Answers (λ _. IsWritten name bytes) old new cause → Answers (λ _. IsWritten name wanted) old new cause
wrote name bytes wanted old new cause same answers = subst (λ b. Answers (λ _. IsWritten name b) old new cause) same answers

-- the image has these bytes in version 1, and what is written then
pub renews : (bytes : List ℕ) (image : Image) (next : Verdict → Type 0) (old new : Devices) (cause : Cause) → bytes ≡ image_bytes (in_version_one image) → Answers (λ _. next) old new cause → Answers (λ _. Renews bytes image next) old new cause
renews bytes image next old new cause same answers = mapped (λ _. next) (λ _. Renews bytes image next) old new cause (λ _ v it. AreTheSame same it) answers

-- it has others
pub differs : (held : Option Held) (m : ℕ) (bytes : List ℕ) (image : Image) (next : Verdict → Type 0) (at : ℕ) → DifferAt at bytes (image_bytes (in_version_one image))
    → (left : Option (List ℕ)) (k : ℕ) (out : Account) → Answers (λ _. Renews bytes image next) (devices held m left k out) (devices held m left k out) (OtherImage at)
differs held m bytes image next at differ left k out = refuses (λ _. Renews bytes image next) held held m m left k out (OtherImage at) refl (Differ at differ refl)
