use Rattle.std.proofs.Common.{[], ◌≡◌, ◌∙◌, subst}
use Rattle.run_laws.specs.Runs.{output}
use Rattle.memory_devices.specs.MemSink.{account_of}
use Rattle.trc_answers.specs.Causes.{status_of}
use Rattle.trc_answers.specs.Runs.{cause_of_run, run_of}
use Rattle.trc_answers.specs.Answers.{RunAnswers}
use Rattle.batch_jobs.specs.Jobs.{cut_reply, plain_reply}
use Rattle.batch_jobs.proofs.Cutting.{cut_same, ok_as}
use Rattle.batch_jobs.proofs.running.run_alone.Goals as goal

pub returns : goal.returns
returns c =
    let outcome = run_of c.args.image [] c.args.steps in
    let before = c.in_ok-front.front in
    let after = c.run_on.new.out in
    let ran = subst (λ i. RunAnswers c.args.image.places (run_of c.args.image i c.args.steps) (account_of before.sink) (account_of after.sink) c.run_on.result) c.new-2.ensures.items c.run_on.ensures.answers in
    ok_as c.reply.result (λ reply. plain_reply reply ≡ cut_reply c.status.result c.bytes.result.now) (λ reply. plain_reply reply ≡ cut_reply (status_of (cause_of_run c.args.image.places outcome)) (output outcome))
    (λ reply e. e ∙ ((λ i. cut_reply (c.status.ensures i) (c.bytes.ensures i)) ∙ cut_same c.args.image.places outcome before.sink after.sink c.run_on.result c.in_ok-front.ensures after.full c.in_default.not-Memory ran)) c.reply.ensures
