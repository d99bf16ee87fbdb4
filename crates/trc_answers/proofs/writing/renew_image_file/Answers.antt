use Rattle.trc_answers.specs.Verdict.{Written}
use Rattle.trc_answers.proofs.Answering.{differs, renews}
use Rattle.trc_answers.proofs.writing.renew_image_file.Goals as goal

pub returns-in-None-clause-answers : goal.returns-in-None-clause-answers
returns-in-None-clause-answers g c = λ left faults out.
    renews c.args.bytes.now c.args.image.now (Written c.args.name.now c.args.image.now) _ _ _ c.in-None.ensures.same (c.write_image_file.ensures.answers left faults out)

pub returns-in-Some-clause-answers : goal.returns-in-Some-clause-answers
returns-in-Some-clause-answers g c = differs _ _ c.args.bytes.now c.args.image.now (Written c.args.name.now c.args.image.now) c.in-Some.at c.in-Some.ensures.differ
