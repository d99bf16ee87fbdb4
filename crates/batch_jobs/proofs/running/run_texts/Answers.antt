use Rattle.std.proofs.Common.{[], ◌≡◌, ◌∙◌, IfOk, ap, refl, subst}
use Rattle.run_laws.specs.Runs.{output}
use Rattle.image_form.specs.declared.image.Image.{Image}
use Rattle.trc_answers.specs.Causes.{status_of}
use Rattle.trc_answers.specs.Runs.{cause_of_run, run_of}
use Rattle.batch_jobs.specs.declared.jobs.JobReply.{JobReply}
use Rattle.batch_jobs.specs.Jobs.{IsRunReply, cut_reply, plain_reply}
use Rattle.batch_jobs.proofs.Cutting.{ok_as}
use Rattle.batch_jobs.proofs.Replying.{refused_reply, run_reply}
use Rattle.batch_jobs.proofs.running.run_texts.Goals as goal

pub returns-in-Ok : goal.returns-in-Ok
returns-in-Ok g c =
    let made = c.in-Ok.made in
    let IsAlone : Image → JobReply → Type 0 = λ image reply.
    plain_reply reply ≡ cut_reply (status_of (cause_of_run image.places (run_of image [] c.args.steps))) (output (run_of image [] c.args.steps)) in
    ok_as c.run_alone.result (IsAlone made.image) (λ reply. IsRunReply c.args.choice.now c.args.steps c.args.texts.now (plain_reply reply))
    (λ reply e. run_reply c.args.choice.now c.args.steps c.args.texts.now made (plain_reply reply) c.in-Ok.ensures.image c.in-Ok.ensures.image.form e)
    (subst (λ image. IfOk c.run_alone.result (IsAlone image)) c.image_alone.ensures c.run_alone.ensures)

pub returns-in_default : goal.returns-in_default
returns-in_default g c =
    ok_as c.reply.result (λ reply. plain_reply reply ≡ cut_reply c.status.result []) (λ reply. IsRunReply c.args.choice.now c.args.steps c.args.texts.now (plain_reply reply))
    (λ reply e. refused_reply c.args.choice.now c.args.steps c.args.texts.now c.in-Err.ending.cause [] (plain_reply reply) c.in-Err.ensures.refused c.in_default.not-Memory refl (e ∙ ap (λ s. cut_reply s []) c.status.ensures)) c.reply.ensures
