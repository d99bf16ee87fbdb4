-- What a list comes to when nothing fails.
use Rattle.std.specs.Prelude.{◌≡◌, ◌≤◌, ◌<◌, ℕ, List, ◌++◌, length, Option, Some, None}
use Rattle.std.specs.List.{AllZip}
use Rattle.outside.specs.Files.{Held}
use Rattle.trc_texts.specs.words.alloc_choice.declared.choice.Choice.{Choice}
use Rattle.trc_answers.specs.Verdict.{Verdict, Refuses, Prints, IsHeld}
use Rattle.trc_answers.specs.declared.causes.Cause.TheVariants.{BadLine, Limit, NoSuchFile}
use Rattle.batch_list.specs.Form.{ListLine, AreLines, IsFirstBad}
use Rattle.batch_jobs.specs.Jobs.{Task, Reply, IsReplyTo}
use Rattle.batch_jobs.specs.Sources.{AreJobs, PassesJobBytes}
use Rattle.batch_jobs.specs.Replies.{replies_text}

-- the most bytes of a list, and the most lines
abbrev pub most_list_bytes : ℕ
most_list_bytes = 1048576

abbrev pub most_lines : ℕ
most_lines = 1024

-- the jobs of both submitters are replied to, and the replies printed: those of submitter 0, and then those of submitter 1
pub record AreReplied (choice : Choice) (steps : ℕ) (first second : List Task) (verdict : Verdict) : Type 0 where
  pub one : List Reply
  pub two : List Reply
  pub first_are : AllZip (IsReplyTo choice steps) first one
  pub second_are : AllZip (IsReplyTo choice steps) second two
  pub verdict_is : verdict ≡ Prints (replies_text 0 one ++ replies_text 1 two)

-- lines are too many, their sources too large, or their jobs are replied to
pub data LinesComeTo (held : Option Held) (choice : Choice) (steps : ℕ) (lines : List ListLine) (verdict : Verdict) : Type 0 where
  AreTooMany : most_lines < length lines → verdict ≡ Refuses (Limit 69 0) → LinesComeTo held choice steps lines verdict
  AreTooLarge : length lines ≤ most_lines → PassesJobBytes held lines → verdict ≡ Refuses (Limit 70 0) → LinesComeTo held choice steps lines verdict
  HaveJobs : (first second : List Task) → length lines ≤ most_lines → AreJobs held lines first second → AreReplied choice steps first second verdict
      → LinesComeTo held choice steps lines verdict

-- a list has a bad line, or its lines come to something
pub data ListComesTo (held : Option Held) (choice : Choice) (steps : ℕ) (list : List ℕ) (verdict : Verdict) : Type 0 where
  HasBadLine : (number : ℕ) → IsFirstBad list number → verdict ≡ Refuses (BadLine number) → ListComesTo held choice steps list verdict
  HasLines : (lines : List ListLine) → AreLines list lines → LinesComeTo held choice steps lines verdict → ListComesTo held choice steps list verdict

-- the list of this name isn't there, is too long, or comes to something
pub data BatchComesTo (held : Option Held) (choice : Choice) (steps : ℕ) (name : List ℕ) (verdict : Verdict) : Type 0 where
  LacksList : IsHeld held name None → verdict ≡ Refuses (NoSuchFile 0) → BatchComesTo held choice steps name verdict
  HasLongList : (list : List ℕ) → IsHeld held name (Some list) → most_list_bytes < length list → verdict ≡ Refuses (Limit 55 0) → BatchComesTo held choice steps name verdict
  HasList : (list : List ℕ) → IsHeld held name (Some list) → length list ≤ most_list_bytes → ListComesTo held choice steps list verdict
      → BatchComesTo held choice steps name verdict
