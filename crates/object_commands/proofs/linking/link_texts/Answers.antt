use Rattle.note_commands.specs.planned_image.Plans.{TellsOfPlan}
use Rattle.note_commands.proofs.trc_texts.Named.{names_text}
use Rattle.object_commands.proofs.Whole.{has_plan, no_plan}
use Rattle.object_commands.proofs.linking.link_texts.Goals as goal

pub link_results-requires-clause-plan : goal.link_results-requires-clause-plan
link_results-requires-clause-plan g c = record { builder = c.args.builder; program = c.in-Ok.ensures.plan.program; well_formed = c.in-Ok.ensures.plan.well_formed; is = c.in-Ok.ensures.plan.is }

pub refused-requires-clause-named : goal.refused-requires-clause-named
refused-requires-clause-named g c = names_text c.args.texts.now c.in-Err.refusal (TellsOfPlan c.args.builder) c.in-Err.ensures.refused

pub returns-in-Ok-clause-answers : goal.returns-in-Ok-clause-answers
returns-in-Ok-clause-answers g c = λ left faults output.
    let is = c.in-Ok.ensures.plan in
    rw c.of.ensures (has_plan c.args.out.now c.args.builder c.args.regs c.args.texts.now c.args.outs.items c.in-Ok.plan is _ _ _
    (c.link_results.ensures.answers c.args.builder is.program left faults output is.well_formed is.is))

pub returns-in-Err-clause-answers : goal.returns-in-Err-clause-answers
returns-in-Err-clause-answers g c = λ left faults output.
    no_plan c.args.out.now c.args.builder c.args.regs c.args.texts.now c.args.outs.items _ (record { refusal = c.in-Err.refusal; is = c.in-Err.ensures.refused; cause_is = c.refused.ensures.cause }) _ _ left faults output
