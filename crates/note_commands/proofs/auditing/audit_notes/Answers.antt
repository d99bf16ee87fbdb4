use Rattle.std.proofs.Common.{refl}
use Rattle.trc_answers.proofs.Answering.{refuses}
use Rattle.note_commands.specs.Audits.{NotesComeTo, ResultsComeTo, AreTooLong, audit_of}
use Rattle.note_commands.proofs.Whole.{same_content}
use Rattle.note_commands.proofs.auditing.audit_notes.Goals as goal

pub returns-in-Some-clause-answers : goal.returns-in-Some-clause-answers
returns-in-Some-clause-answers g c = λ bytes builder program left input_faults content fine is.
    let there = rw c.in-Some.is at content in
    same_content (ResultsComeTo (audit_of c.args.name.now builder c.args.regs) program c.args.plan) _ _ bytes _ _ c.audit_bytes.result c.as_slice.ensures.value there.0
    (c.audit_bytes.ensures.answers builder program left input_faults fine is)

pub returns-in-None-clause-answers : goal.returns-in-None-clause-answers
returns-in-None-clause-answers g c = λ bytes builder program left input_faults content fine is.
    refuses (λ _. NotesComeTo bytes (ResultsComeTo (audit_of c.args.name.now builder c.args.regs) program c.args.plan)) _ _ _ _ left input_faults _ _ refl
    (AreTooLong (rw c.in-None.is at content) refl)
