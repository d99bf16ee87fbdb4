use Rattle.std.proofs.Common.{◌≤◌, length, map, refl, sym, subst, arith}
use Rattle.trc_answers.proofs.Answering.{refuses}
use Rattle.note_commands.specs.Audits.{AuditComesTo, AreTooMany, audit_of}
use Rattle.note_commands.proofs.Whole.{reads_notes, unread_notes, few_names, many_names}
use Rattle.note_commands.proofs.auditing.audit.Goals as goal

pub returns-then-names-gt-MOST_MODULES-clause-answers : goal.returns-then-names-gt-MOST_MODULES-clause-answers
returns-then-names-gt-MOST_MODULES-clause-answers g c = λ left input_faults.
    rw c.of.ensures (refuses (λ _. AuditComesTo (g.F.Files.held c.args.files.now) (audit_of c.args.name.now c.args.builder c.args.regs) c.args.notes.now (map (λ name. name.now) c.args.names.now)) _ _ _ _ left input_faults _ _ refl
    (AreTooMany (many_names c.args.names.now c.if-names-gt-MOST_MODULES.true) refl))

pub returns-in-Ok-clause-answers : goal.returns-in-Ok-clause-answers
returns-in-Ok-clause-answers g c = λ left input_faults.
    let read = c.in-Ok.ensures.read in
    reads_notes (g.F.Files.held c.args.files.now) _ (audit_of c.args.name.now c.args.builder c.args.regs) c.args.notes.now (map (λ name. name.now) c.args.names.now) _ _ c.in-Ok.ensures.stays c.in-Ok.ensures.rises left input_faults _ _ _
    (c.audit_files.ensures.answers c.args.notes.now read.bytes left input_faults (subst (λ h. Rattle.trc_answers.specs.Verdict.IsHeld h c.args.notes.now (Rattle.std.specs.Prelude.Some read.bytes)) (sym c.in-Ok.ensures.stays) read.is) read.content)

pub returns-in-Err-clause-answers : goal.returns-in-Err-clause-answers
returns-in-Err-clause-answers g c = λ left input_faults.
    let few : length c.args.names.now ≤ 64 = omega (arith, c.if-names-gt-MOST_MODULES.false) in
    rw c.of-in-Err.ensures (unread_notes (g.F.Files.held c.args.files.now) _ (audit_of c.args.name.now c.args.builder c.args.regs) c.args.notes.now (map (λ name. name.now) c.args.names.now) _ _ c.in-Err.cause c.in-Err.ensures.stays
    (few_names c.args.names.now few) c.in-Err.ensures.fault left input_faults _)
