use Rattle.trc_answers.specs.Verdict.{BytesComeTo}
use Rattle.trc_answers.proofs.Answering.{reads_file, unread_image}
use Rattle.trc_answers.proofs.running.exec.Goals as goal

pub returns-in-Ok-clause-answers : goal.returns-in-Ok-clause-answers
returns-in-Ok-clause-answers g c =
    reads_file _ _ 0 c.args.image.now _ _ _ _ _ _ _ c.in-Ok.bytes.items c.as_slice.result.now (λ l. BytesComeTo l c.args.steps)
    c.in-Ok.ensures.stays c.in-Ok.ensures.bytes c.as_slice.ensures.value c.in-Ok.ensures.rises (c.run_bytes.ensures.answers _ _)

pub returns-in-Err-clause-answers : goal.returns-in-Err-clause-answers
returns-in-Err-clause-answers g c = unread_image _ _ 0 c.args.image.now _ _ _ (λ l. BytesComeTo l c.args.steps) c.in-Err.ensures.stays c.in-Err.ensures.fault _ _ _
