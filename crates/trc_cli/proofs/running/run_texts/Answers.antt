use Rattle.trc_answers.specs.Verdict.{ImageComesTo}
use Rattle.trc_cli.proofs.Endings.{image_comes, no_image}
use Rattle.trc_cli.proofs.running.run_texts.Goals as goal

pub returns-in-Ok-clause-answers : goal.returns-in-Ok-clause-answers
returns-in-Ok-clause-answers g c = λ held faults.
    rw c.of.ensures (image_comes c.args.choice.now c.args.texts.now (λ l. ImageComesTo l c.args.steps) c.in-Ok.made _ _ _ _ c.in-Ok.ensures.image c.image_alone-image.ensures (c.run_image.ensures.answers held faults))

pub returns-in-Err-clause-answers : goal.returns-in-Err-clause-answers
returns-in-Err-clause-answers g c = λ held faults.
    no_image c.args.choice.now c.args.texts.now (λ l made. ImageComesTo l c.args.steps made.image) _ c.in-Err.ensures.refused held faults _ _ _
