use Rattle.trc_answers.specs.Verdict.{Renews, WrittenWith}
use Rattle.note_commands.specs.Noted.{NotesRenewed}
use Rattle.note_commands.proofs.Whole.{notes_written, no_notes}
use Rattle.note_commands.proofs.building.renew_noted.Goals as goal

pub returns-in-Ok-clause-answers : goal.returns-in-Ok-clause-answers
returns-in-Ok-clause-answers g c = λ left faults output.
    rw c.of.ensures (notes_written c.args.choice.now c.args.texts.now (λ bytes made. Renews c.args.bytes.now made.image (WrittenWith c.args.out.now made.image c.args.name.now bytes)) c.in-Ok.made _ _ _ c.renew_image_with.result
    c.in-Ok.ensures.image c.as_slice.ensures.value (c.renew_image_with.ensures.answers left faults output))

pub returns-in-Err-clause-answers : goal.returns-in-Err-clause-answers
returns-in-Err-clause-answers g c = λ left faults output.
    no_notes c.args.choice.now c.args.texts.now (NotesRenewed c.args.out.now c.args.name.now c.args.bytes.now) _ c.in-Err.ensures.refused _ _ left faults output
