use Rattle.batch_serve.proofs.Answering.{answered_push}
use Rattle.batch_serve.proofs.serving.answer.Goals as goal

pub returns-in_ok-push : goal.returns-in_ok-push
returns-in_ok-push g c =
    answered_push (g.N.Runner.is_answer c.args.runner.now) c.args.jobs.now c.args.answers.now.items c.push.new.self.items c.args.index c.index-jobs-index.result c.in_ok-run.field-0
    c.requires c.if-index-jobs.true c.index-jobs-index.is c.in_ok-run.ensures c.in_ok-push.ensures.items
