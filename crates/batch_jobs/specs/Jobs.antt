-- What is replied to a job.
use Rattle.std.specs.Prelude.{◌≡◌, ℕ, List, [], length, take, nat_le, if◌then◌else◌, Some}
use Rattle.trc_texts.specs.words.alloc_choice.declared.choice.Choice.{Choice}
use Rattle.trc_answers.specs.Causes.{status_of}
use Rattle.trc_answers.specs.Verdict.{Verdict, ImageComesTo, cause_of, written_by}
use Rattle.trc_texts.specs.Texts.{TextsComeTo}
use Rattle.batch_jobs.specs.declared.jobs.Job.{Job}
use Rattle.batch_jobs.specs.declared.jobs.Job.TheVariants.{Refused, Sources}
use Rattle.batch_jobs.specs.declared.jobs.JobReply.{JobReply}

-- a job without its places in memory: it is refused with a status, or has texts
pub data Task : Type 0 where
  IsRefused : (status : ℕ) → Task
  HasTexts : (texts : List (List ℕ)) → Task

abbrev pub task_of : Job → Task
task_of (Refused status) = IsRefused status
task_of (Sources sources) = HasTexts sources.texts.items

-- a reply without its places in memory: a status, and what was written
pub record Reply : Type 0 where
  pub status : ℕ
  pub written : List ℕ

abbrev pub replied : ℕ → List ℕ → Reply
replied status written = record { status = status; written = written }

abbrev pub plain_reply : JobReply → Reply
plain_reply reply = replied reply.status reply.written.items

-- the most bytes that a reply has
abbrev pub most_written : ℕ
most_written = 65536

-- the reply where a run ended with this status and wrote this: where that is more than a reply has, its front, with status 3
abbrev pub cut_reply : ℕ → List ℕ → Reply
cut_reply status written = if nat_le (length written) most_written then replied status written else replied 3 (take most_written written)

-- the reply to texts: the status and the output of a run on empty input
pub record IsRunReply (choice : Choice) (steps : ℕ) (texts : List (List ℕ)) (reply : Reply) : Type 0 where
  pub verdict : Verdict
  pub comes : TextsComeTo choice (λ made. ImageComesTo (Some []) steps made.image) texts verdict
  pub is : reply ≡ cut_reply (status_of (cause_of verdict)) (written_by verdict)

-- the reply to a job
abbrev pub IsReplyTo : Choice → ℕ → Task → Reply → Type 0
IsReplyTo choice steps (IsRefused status) reply = reply ≡ replied status []
IsReplyTo choice steps (HasTexts texts) reply = IsRunReply choice steps texts reply
