use Rattle.std.proofs.Common.{◌≡◌, ◌++◌, map, take}
use Rattle.batch_jobs.specs.Jobs.{plain_reply}
use Rattle.batch_jobs.specs.Replies.{replies_text}
use Rattle.batch_jobs.proofs.replies.put_replies.Given as goal

abbrev pub invariant-loop-index : goal.invariant-loop-index
invariant-loop-index l = l.text.items ≡ l.initial.text.items ++ replies_text l.sender (take l.index (map plain_reply l.replies))
