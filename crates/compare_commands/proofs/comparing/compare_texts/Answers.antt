use Rattle.std.proofs.Common.{refl}
use Rattle.program_figures.specs.planned_image.Plans.{TellsOfLowering}
use Rattle.program_figures.specs.words.source_image.Refusals.{IsRefusalOf}
use Rattle.trc_answers.proofs.Answering.{mapped, lacks}
use Rattle.meaning_commands.proofs.trc_texts.Named.{names_text}
use Rattle.meaning_commands.proofs.trc_texts.Refusing.{refused}
use Rattle.meaning_commands.proofs.Refusing.{program_refused, refused_so}
use Rattle.compare_commands.specs.Compares.{ComparesComeTo, HaveNoneToCompare, HaveTable, TableComesTo}
use Rattle.compare_commands.proofs.Telling.{formed_rows}
use Rattle.compare_commands.proofs.comparing.compare_texts.Goals as goal

pub returns-in-Err-clause-answers : goal.returns-in-Err-clause-answers
returns-in-Err-clause-answers g c = λ held faults.
    let texts = c.args.texts.now in
    refused (IsRefusalOf TellsOfLowering texts) (λ l. ComparesComeTo l c.args.jobs c.args.steps texts) (λ l v r. HaveNoneToCompare r) _
    (refused_so TellsOfLowering texts c.in-Err.ending.cause c.in-Err.ensures.refused) held faults _ _ _

pub refused-requires-clause-named : goal.refused-requires-clause-named
refused-requires-clause-named g c =
    names_text c.args.texts.now c.refused_program.result TellsOfLowering
    (program_refused TellsOfLowering c.args.texts.now c.in-Ok.program c.in-Ok.ensures.program c.in-Err-program_flows.fault c.refused_program.result c.refused_program.ensures c.in-Err-program_flows.ensures.limit)

pub returns-in-Err-program_flows-clause-answers : goal.returns-in-Err-program_flows-clause-answers
returns-in-Err-program_flows-clause-answers g c = λ held faults.
    let texts = c.args.texts.now in
    refused (IsRefusalOf TellsOfLowering texts) (λ l. ComparesComeTo l c.args.jobs c.args.steps texts) (λ l v r. HaveNoneToCompare r) _
    (record {
      refusal = c.refused_program.result;
      is = program_refused TellsOfLowering texts c.in-Ok.program c.in-Ok.ensures.program c.in-Err-program_flows.fault c.refused_program.result c.refused_program.ensures c.in-Err-program_flows.ensures.limit;
      cause_is = c.refused.ensures.cause;
    }) held faults _ _ _

pub rows_of-requires-clause-program : goal.rows_of-requires-clause-program
rows_of-requires-clause-program g c κs within = (c.in-Ok.program, c.in-Ok.ensures.program.well_formed, c.in-Ok-program_flows.ensures.flows)

pub tell_rows-requires : goal.tell_rows-requires
tell_rows-requires g c =
    let p = c.in-Ok.program in
    formed_rows c.args.jobs p c.in-Ok-rows_of.rows.items (c.in-Ok-rows_of.ensures p c.in-Ok.ensures.program.well_formed c.in-Ok-program_flows.ensures.flows)

pub returns-in-Ok-rows_of-clause-answers : goal.returns-in-Ok-rows_of-clause-answers
returns-in-Ok-rows_of-clause-answers g c = λ held faults.
    let texts = c.args.texts.now in
    let p = c.in-Ok.program in
    let rows = c.in-Ok-rows_of.rows.items in
    let flows = c.in-Ok-program_flows.ensures.flows in
    rw c.of.ensures (mapped (λ l. TableComesTo l p.imports_in c.args.steps rows) (λ l. ComparesComeTo l c.args.jobs c.args.steps texts) _ _ _
    (λ l v it. HaveTable p rows c.in-Ok.ensures.program flows.within (c.in-Ok-rows_of.ensures p c.in-Ok.ensures.program.well_formed flows) it) (c.tell_rows.ensures.answers held faults))

pub returns-clause-answers : goal.returns-clause-answers
returns-clause-answers g c = λ held faults.
    lacks (λ l. ComparesComeTo l c.args.jobs c.args.steps c.args.texts.now) held held faults faults _ _ _ _ c.of-in-Err-rows_of.ensures refl
