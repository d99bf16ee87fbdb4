use Rattle.object_commands.proofs.Whole.{has_object, no_object}
use Rattle.object_commands.proofs.making.store_of_texts.Goals as goal

pub returns-in-Ok-clause-answers : goal.returns-in-Ok-clause-answers
returns-in-Ok-clause-answers g c = λ left faults output.
    rw c.of.ensures (has_object c.args.choice.now c.args.out.now c.args.texts.now c.in-Ok.object _ _ _ c.in-Ok.ensures.object (c.store.ensures.answers left faults output))

pub returns-in-Err-clause-answers : goal.returns-in-Err-clause-answers
returns-in-Err-clause-answers g c = λ left faults output.
    no_object c.args.choice.now c.args.out.now c.args.texts.now _ c.in-Err.ensures.refused _ _ left faults output
