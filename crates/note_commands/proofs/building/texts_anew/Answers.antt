use Rattle.trc_answers.proofs.Answering.{reads_file, unread_image}
use Rattle.note_commands.specs.Noted.{NotedComeTo, NotesRenewed}
use Rattle.note_commands.proofs.building.texts_anew.Goals as goal

pub returns-in-Ok-clause-answers : goal.returns-in-Ok-clause-answers
returns-in-Ok-clause-answers g c = λ left faults output.
    reads_file _ _ c.args.number c.args.from.now _ _ left faults output _ _ c.in-Ok.bytes.items c.as_slice.result.now
    (λ _ bytes. NotedComeTo c.args.choice.now (NotesRenewed c.args.out.now c.args.name.now bytes) c.args.texts.now)
    c.in-Ok.ensures.stays c.in-Ok.ensures.bytes c.as_slice.ensures.value c.in-Ok.ensures.rises (c.renew_noted.ensures.answers left faults output)

pub returns-in-Err-clause-answers : goal.returns-in-Err-clause-answers
returns-in-Err-clause-answers g c = λ left faults output.
    rw c.of.ensures (unread_image _ _ c.args.number c.args.from.now _ _ _
    (λ _ bytes. NotedComeTo c.args.choice.now (NotesRenewed c.args.out.now c.args.name.now bytes) c.args.texts.now) c.in-Err.ensures.stays c.in-Err.ensures.fault left faults output)
