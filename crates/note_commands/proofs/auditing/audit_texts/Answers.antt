use Rattle.note_laws.specs.planned_image.Plans.{TellsOfPlan}
use Rattle.trc_texts.proofs.Named.{names_text}
use Rattle.note_commands.specs.Audits.{audit_of}
use Rattle.note_commands.proofs.Whole.{has_plan, no_plan}
use Rattle.note_commands.proofs.auditing.audit_texts.Goals as goal

pub audit_notes-requires-clause-plan : goal.audit_notes-requires-clause-plan
audit_notes-requires-clause-plan g c = record { builder = c.args.builder; program = c.in-Ok.ensures.plan.program; well_formed = c.in-Ok.ensures.plan.well_formed; is = c.in-Ok.ensures.plan.is }

pub refused-requires-clause-named : goal.refused-requires-clause-named
refused-requires-clause-named g c = names_text c.args.texts.now c.in-Err.refusal (TellsOfPlan c.args.builder) c.in-Err.ensures.refused

pub returns-in-Ok-clause-answers : goal.returns-in-Ok-clause-answers
returns-in-Ok-clause-answers g c = λ bytes left input_faults content.
    let is = c.in-Ok.ensures.plan in
    rw c.of.ensures (has_plan (audit_of c.args.name.now c.args.builder c.args.regs) bytes c.args.texts.now c.in-Ok.plan is _ _ _
    (c.audit_notes.ensures.answers bytes c.args.builder is.program left input_faults content is.well_formed is.is))

pub returns-in-Err-clause-answers : goal.returns-in-Err-clause-answers
returns-in-Err-clause-answers g c = λ bytes left input_faults content.
    no_plan (audit_of c.args.name.now c.args.builder c.args.regs) bytes c.args.texts.now _ (record { refusal = c.in-Err.refusal; is = c.in-Err.ensures.refused; cause_is = c.refused.ensures.cause }) _ _ left input_faults _
