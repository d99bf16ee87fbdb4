use Rattle.trc_answers.specs.Verdict.{ImageComesTo, BytesComeTo, AreAnImage}
use Rattle.trc_answers.proofs.Answering.{mapped, no_image}
use Rattle.trc_answers.proofs.running.run_bytes.Goals as goal

pub returns-in-Ok-clause-answers : goal.returns-in-Ok-clause-answers
returns-in-Ok-clause-answers g c = λ held faults.
    mapped (λ l. ImageComesTo l c.args.steps c.in-Ok.image) (λ l. BytesComeTo l c.args.steps c.args.bytes.now) _ _ _
    (λ l v it. AreAnImage c.in-Ok.image c.in-Ok.ensures.in_form c.in-Ok.ensures.words c.in-Ok.ensures.read it)
    (c.run_image.ensures.answers held faults)

pub returns-in-Err-clause-answers : goal.returns-in-Err-clause-answers
returns-in-Err-clause-answers g c = no_image _ c.args.steps c.args.bytes.now _ _ _ _ c.no_image.ensures.is c.in-Err.ensures.fault
