use Rattle.trc_answers.specs.Verdict.{Accepted}
use Rattle.trc_answers.proofs.Answering.{mapped}
use Rattle.note_commands.specs.Audits.{ResultsComeTo, MakeAnImage, audit_of}
use Rattle.note_commands.proofs.Whole.{not_accepted}
use Rattle.note_commands.proofs.auditing.accept_results.Goals as goal

pub returns-in-Ok-clause-answers : goal.returns-in-Ok-clause-answers
returns-in-Ok-clause-answers g c = λ builder program left input_faults fine is.
    mapped (λ _. Accepted c.args.name.now c.in-Ok.image) (λ _. ResultsComeTo (audit_of c.args.name.now builder c.args.regs) program c.args.plan c.args.outs.items) _ _ _
    (λ _ v it. MakeAnImage c.in-Ok.image (c.in-Ok.ensures.image builder program fine is) c.in-Ok.ensures.form c.in-Ok.ensures.words it) (c.accept_image.ensures.answers left input_faults)

pub returns-in-Err-clause-answers : goal.returns-in-Err-clause-answers
returns-in-Err-clause-answers g c = λ builder program left input_faults fine is.
    not_accepted builder c.args.regs (Accepted c.args.name.now) program c.args.plan c.args.outs.items c.in-Err.fault c.not_accepted.result c.not_accepted.ensures.is c.in-Err.ensures.refused _ _ left input_faults _
