use Rattle.std.proofs.Common.{map}
use Rattle.std.proofs.lemmas.List.{length-map}
use Rattle.batch_jobs.specs.Jobs.{plain_reply}
use Rattle.batch_jobs.proofs.Reading.{at_place}
use Rattle.batch_jobs.proofs.Printing.{one_more_reply}
use Rattle.batch_jobs.proofs.replies.put_replies.Goals as goal

pub loop-index-preserved : goal.loop-index-preserved
loop-index-preserved c =
    let replies = c.args.replies.now in
    let reply = c.index-replies-index.result in
    one_more_reply c.args.sender c.loop-index.index (map plain_reply replies) (plain_reply reply) c.args.text.now.items c.loop-index.text.items c.put_reply.new.text.items
    (simp length-map c.loop-index-test.true)
    (at_place plain_reply replies c.loop-index.index reply (plain_reply reply) c.loop-index-test.true c.index-replies-index.is) c.loop-index.invariant c.in_ok-put_reply.ensures
