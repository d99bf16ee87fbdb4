use Rattle.trc_answers.proofs.Answering.{mapped}
use Rattle.note_commands.specs.Audits.{NotesComeTo, ResultsComeTo, HaveResults, audit_of}
use Rattle.note_commands.proofs.Whole.{not_taken}
use Rattle.note_commands.proofs.auditing.audit_bytes.Goals as goal

pub returns-in-Ok-clause-answers : goal.returns-in-Ok-clause-answers
returns-in-Ok-clause-answers g c = λ builder program left input_faults fine is.
    mapped (λ _. ResultsComeTo (audit_of c.args.name.now builder c.args.regs) program c.args.plan c.in-Ok.outs.items) (λ _. NotesComeTo c.args.bytes.now (ResultsComeTo (audit_of c.args.name.now builder c.args.regs) program c.args.plan)) _ _ _
    (λ _ v it. HaveResults c.in-Ok.outs.items c.requires.short c.in-Ok.ensures.found.0 c.in-Ok.ensures.found.1 it) (c.accept_results.ensures.answers builder program left input_faults fine is)

pub returns-in-Err-clause-answers : goal.returns-in-Err-clause-answers
returns-in-Err-clause-answers g c = λ builder program left input_faults fine is.
    not_taken c.args.bytes.now (ResultsComeTo (audit_of c.args.name.now builder c.args.regs) program c.args.plan) c.in-Err.fault c.no_notes.result c.no_notes.ensures.is c.requires.short c.in-Err.ensures.exact _ _ left input_faults _
