use Rattle.batch_jobs.proofs.Cutting.{front_of_more}
use Rattle.batch_jobs.proofs.running.reply.Goals as goal

pub returns-then-kept-written : goal.returns-then-kept-written
returns-then-kept-written c =
    front_of_more c.args.status c.min-kept.result c.args.written.now c.in_ok-front.front.items c.min-kept.ensures c.in_ok-front.ensures.items c.if-kept-written.true
