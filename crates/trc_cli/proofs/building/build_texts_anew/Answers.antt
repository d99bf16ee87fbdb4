use Rattle.trc_answers.proofs.Answering.{reads_file, unread_image}
use Rattle.trc_answers.specs.Verdict.{Renews, Written}
use Rattle.trc_cli.specs.Commands.{TextsComeTo}
use Rattle.trc_cli.proofs.building.build_texts_anew.Goals as goal

pub returns-in-Ok-clause-answers : goal.returns-in-Ok-clause-answers
returns-in-Ok-clause-answers g c = λ left faults out.
    reads_file _ _ c.args.number c.args.from.now _ _ left faults out _ _ c.in-Ok.bytes.items c.as_slice.result.now
    (λ _ bytes. TextsComeTo c.args.choice.now (λ made. Renews bytes made.image (Written c.args.name.now made.image)) c.args.texts.now)
    c.in-Ok.ensures.stays c.in-Ok.ensures.bytes c.as_slice.ensures.value c.in-Ok.ensures.rises (c.renew_texts.ensures.answers left faults out)

pub returns-in-Err-clause-answers : goal.returns-in-Err-clause-answers
returns-in-Err-clause-answers g c = λ left faults out.
    rw c.of.ensures (unread_image _ _ c.args.number c.args.from.now _ _ _
    (λ _ bytes. TextsComeTo c.args.choice.now (λ made. Renews bytes made.image (Written c.args.name.now made.image)) c.args.texts.now) c.in-Err.ensures.stays c.in-Err.ensures.fault left faults out)
