-- From parts of a batch to the whole.
use Rattle.std.proofs.Common.{◌≡◌, ◌≤◌, ℕ, List, [], ◌∷◌, ◌++◌, length, map, Option, Some, None, Ok, Err, Vec, Global, refl, sym, ap, subst}
use Rattle.std.specs.List.{AllZip}
use Rattle.outside.specs.Files.{Held, ToldOfRead}
use Rattle.outside.specs.declared.files.GetFault.TheVariants as get
use Rattle.outside.specs.Sink.{Account}
use Rattle.trc_texts.specs.words.alloc_choice.declared.choice.Choice.{Choice}
use Rattle.trc_answers.specs.Verdict.{Refuses, Prints}
use Rattle.trc_answers.specs.Answers.{Devices, devices, Answers, PrintAnswers}
use Rattle.trc_answers.proofs.Answering.{refuses, lacks, files_failed, mapped, later, prints, held_bytes, long_bytes}
use Rattle.trc_answers.specs.declared.causes.Cause.{Cause}
use Rattle.trc_answers.specs.declared.causes.Cause.TheVariants.{Limit, NoSuchFile}
use Rattle.batch_list.specs.Form.{ListLine, AreLines}
use Rattle.batch_jobs.specs.Jobs.{Task, IsReplyTo, task_of, plain_reply}
use Rattle.batch_jobs.specs.Sources.{AreJobs, AreUnreadJobs, PassLimit, Fail, FilesFailed}
use Rattle.batch_jobs.specs.Sources as sources
use Rattle.batch_jobs.specs.Replies.{replies_text}
use Rattle.batch_jobs.specs.Batches.{AreReplied, LinesComeTo, AreTooLarge, HaveJobs, ListComesTo, HasLines, BatchComesTo, LacksList, HasLongList, HasList}
use Rattle.batch_jobs.specs.declared.jobs.Job.{Job}
use Rattle.batch_jobs.specs.declared.jobs.JobReply.{JobReply}

-- replies to jobs are replies to them without their places in memory
pub plain_replies : (choice : Choice) (steps : ℕ) (jobs : List Job) (replies : List JobReply) → AllZip (λ job reply. IsReplyTo choice steps (task_of job) (plain_reply reply)) jobs replies
    → AllZip (IsReplyTo choice steps) (map task_of jobs) (map plain_reply replies)
plain_replies choice steps [] [] all = tt
plain_replies choice steps [] (r ∷ rs) all = absurd all
plain_replies choice steps (j ∷ js) [] all = absurd all
plain_replies choice steps (j ∷ js) (r ∷ rs) all = (all.0, plain_replies choice steps js rs all.1)

-- the replies were printed
pub replied : (choice : Choice) (steps : ℕ) (first second : List Job) (one two : List JobReply) (text : List ℕ) (held : Option Held) (m : ℕ) (left : Option (List ℕ)) (k : ℕ) (a b : Account) (cause : Cause)
    → AllZip (λ job reply. IsReplyTo choice steps (task_of job) (plain_reply reply)) first one → AllZip (λ job reply. IsReplyTo choice steps (task_of job) (plain_reply reply)) second two
    → text ≡ replies_text 0 (map plain_reply one) ++ replies_text 1 (map plain_reply two) → PrintAnswers text a b cause
    → Answers (λ _. AreReplied choice steps (map task_of first) (map task_of second)) (devices held m left k a) (devices held m left k b) cause
replied choice steps first second one two text held m left k a b cause first_are second_are is printed =
    prints (λ _. AreReplied choice steps (map task_of first) (map task_of second)) text held m left k a b cause
    (record {
      one = map plain_reply one;
      two = map plain_reply two;
      first_are = plain_replies choice steps first one first_are;
      second_are = plain_replies choice steps second two second_are;
      verdict_is = ap Prints is;
    }) printed

-- jobs were read, and what they come to
pub reads_jobs : (held mid : Option Held) (choice : Choice) (steps : ℕ) (lines : List ListLine) (first second : List Task) (m n : ℕ) → mid ≡ held → length lines ≤ 1024 → AreJobs held lines first second → m ≤ n
    → (left : Option (List ℕ)) (k : ℕ) (a b : Account) (cause : Cause)
    → ((h : Option Held) (faults : ℕ) → Answers (λ _. AreReplied choice steps first second) (devices h faults left k a) (devices h faults left k b) cause)
    → Answers (λ _. LinesComeTo held choice steps lines) (devices held m left k a) (devices mid n left k b) cause
reads_jobs held mid choice steps lines first second m n same few are l left k a b cause answers =
    let at : Answers (λ _. AreReplied choice steps first second) (devices held n left k a) (devices mid n left k b) cause =
    subst (λ h. Answers (λ _. AreReplied choice steps first second) (devices h n left k a) (devices mid n left k b) cause) same (answers mid n) in
    later (λ _. LinesComeTo held choice steps lines) held m n left k a (devices mid n left k b) cause l
    (mapped (λ _. AreReplied choice steps first second) (λ _. LinesComeTo held choice steps lines) (devices held n left k a) (devices mid n left k b) cause (λ _ v it. HaveJobs first second few are it) at)

-- jobs weren't read
pub unread_jobs : (held mid : Option Held) (choice : Choice) (steps : ℕ) (lines : List ListLine) (m n : ℕ) (cause : Cause) → mid ≡ held → length lines ≤ 1024 → AreUnreadJobs held lines m n cause
    → (left : Option (List ℕ)) (k : ℕ) (out : Account) → Answers (λ _. LinesComeTo held choice steps lines) (devices held m left k out) (devices mid n left k out) cause
unread_jobs held mid choice steps lines m n cause same few (PassLimit passes is) left k out =
    refuses (λ _. LinesComeTo held choice steps lines) held mid m n left k out cause same (AreTooLarge few passes (ap Refuses is))
unread_jobs held mid choice steps lines m n cause same few (Fail (FilesFailed rose is)) left k out =
    subst (Answers (λ _. LinesComeTo held choice steps lines) (devices held m left k out) (devices mid n left k out)) (sym is) (files_failed (λ _. LinesComeTo held choice steps lines) held mid m n left k out same rose)
unread_jobs held mid choice steps lines m n cause same few (Fail (sources.LacksMemory is)) left k out = lacks (λ _. LinesComeTo held choice steps lines) held mid m n left k out cause is same

-- the lines are read, and come to something
pub reads_lines : (held : Option Held) (choice : Choice) (steps : ℕ) (list : List ℕ) (lines : List ListLine) (old new : Devices) (cause : Cause) → AreLines list lines
    → Answers (λ _. LinesComeTo held choice steps lines) old new cause → Answers (λ _. ListComesTo held choice steps list) old new cause
reads_lines held choice steps list lines old new cause are answers =
    mapped (λ _. LinesComeTo held choice steps lines) (λ _. ListComesTo held choice steps list) old new cause (λ _ v it. HasLines lines are it) answers

-- the list is read, and comes to something
pub reads_list : (held mid : Option Held) (choice : Choice) (steps : ℕ) (name text : List ℕ) (bytes : Vec ℕ Global) (m n : ℕ) → mid ≡ held → ToldOfRead held name 1048576 (Ok bytes) → text ≡ bytes.items
    → length bytes.items ≤ 1048576 → m ≤ n → (left : Option (List ℕ)) (k : ℕ) (out : Account) (new : Devices) (cause : Cause)
    → Answers (λ _. ListComesTo mid choice steps text) (devices mid n left k out) new cause → Answers (λ _. BatchComesTo held choice steps name) (devices held m left k out) new cause
reads_list held mid choice steps name text bytes m n same told is few l left k out new cause answers =
    let at : Answers (λ _. ListComesTo held choice steps text) (devices held n left k out) new cause = subst (λ h. Answers (λ _. ListComesTo h choice steps text) (devices h n left k out) new cause) same answers in
    later (λ _. BatchComesTo held choice steps name) held m n left k out new cause l
    (mapped (λ _. ListComesTo held choice steps text) (λ _. BatchComesTo held choice steps name) (devices held n left k out) new cause
    (λ _ v it. HasList bytes.items (held_bytes held name 1048576 bytes told) few (subst (λ b. ListComesTo held choice steps b v) is it)) at)

-- the list isn't there
pub no_list : (held : Option Held) (choice : Choice) (steps : ℕ) (name : List ℕ) → ToldOfRead held name 1048576 (Err get.NoSuchFile) → BatchComesTo held choice steps name (Refuses (NoSuchFile 0))
no_list None choice steps name told = LacksList tt refl
no_list (Some h) choice steps name told = LacksList told refl

-- the list is too long
pub long_list : (held : Option Held) (choice : Choice) (steps : ℕ) (name : List ℕ) → ToldOfRead held name 1048576 (Err get.TooLong) → BatchComesTo held choice steps name (Refuses (Limit 55 0))
long_list held choice steps name told = let long = long_bytes held name 1048576 told in HasLongList long.0 long.1 long.2 refl
