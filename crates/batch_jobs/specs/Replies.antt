-- How replies are printed.
use Rattle.std.specs.Prelude.{ℕ, ◌+◌, List, [], ◌∷◌, ◌++◌, length, decimal, codes}
use Rattle.batch_jobs.specs.Jobs.{Reply}

-- the line of a reply: the submitter, the job's number among the submitter's jobs, the status, and how many bytes were written
abbrev pub reply_line : ℕ → ℕ → Reply → List ℕ
reply_line sender index reply =
    decimal sender ++ (codes " " ++ (decimal index ++ (codes " " ++ (decimal reply.status ++ (codes " " ++ (decimal (length reply.written) ++ 10 ∷ []))))))

-- the replies to a submitter's jobs, numbered from this number on: of each its line, and what was written
abbrev pub replies_from : ℕ → ℕ → List Reply → List ℕ
replies_from sender index [] = []
replies_from sender index (reply ∷ replies) = reply_line sender index reply ++ (reply.written ++ replies_from sender (index + 1) replies)

abbrev pub replies_text : ℕ → List Reply → List ℕ
replies_text sender replies = replies_from sender 0 replies
