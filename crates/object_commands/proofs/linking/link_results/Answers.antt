use Rattle.trc_answers.specs.Verdict.{Written}
use Rattle.trc_answers.proofs.Answering.{mapped}
use Rattle.note_commands.specs.Audits.{AuditedComeTo, MakeAnImage}
use Rattle.note_commands.proofs.Whole.{not_accepted}
use Rattle.object_commands.proofs.linking.link_results.Goals as goal

pub returns-in-Ok-clause-answers : goal.returns-in-Ok-clause-answers
returns-in-Ok-clause-answers g c = λ builder program left faults output fine is.
    mapped (λ _. Written c.args.out.now c.in-Ok.image) (λ _. AuditedComeTo builder c.args.regs (Written c.args.out.now) program c.args.plan c.args.outs.items) _ _ _
    (λ _ v it. MakeAnImage c.in-Ok.image (c.in-Ok.ensures.image builder program fine is) c.in-Ok.ensures.form c.in-Ok.ensures.words it) (c.write_image_file.ensures.answers left faults output)

pub returns-in-Err-clause-answers : goal.returns-in-Err-clause-answers
returns-in-Err-clause-answers g c = λ builder program left faults output fine is.
    not_accepted builder c.args.regs (Written c.args.out.now) program c.args.plan c.args.outs.items c.in-Err.fault c.not_accepted.result c.not_accepted.ensures.is c.in-Err.ensures.refused _ _ left faults output
