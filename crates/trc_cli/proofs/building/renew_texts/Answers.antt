use Rattle.trc_answers.specs.Verdict.{Renews, Written}
use Rattle.trc_cli.proofs.Endings.{image_comes, no_image}
use Rattle.trc_cli.proofs.building.renew_texts.Goals as goal

pub returns-in-Ok-clause-answers : goal.returns-in-Ok-clause-answers
returns-in-Ok-clause-answers g c = λ left faults out.
    rw c.of.ensures (image_comes c.args.choice.now c.args.texts.now (λ _ image. Renews c.args.bytes.now image (Written c.args.name.now image)) c.in-Ok.made _ _ _ _ c.in-Ok.ensures.image c.image_alone-image.ensures (c.renew_image_file.ensures.answers left faults out))

pub returns-in-Err-clause-answers : goal.returns-in-Err-clause-answers
returns-in-Err-clause-answers g c = λ left faults out.
    no_image c.args.choice.now c.args.texts.now (λ _ made. Renews c.args.bytes.now made.image (Written c.args.name.now made.image)) _ c.in-Err.ensures.refused _ _ left faults out
