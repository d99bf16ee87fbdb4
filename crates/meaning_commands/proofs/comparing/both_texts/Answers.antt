use Rattle.trc_texts.specs.words.program_image.Faults.{Tells}
use Rattle.trc_texts.specs.words.source_image.Refusals.{IsRefusal}
use Rattle.trc_answers.proofs.Answering.{mapped}
use Rattle.trc_texts.proofs.Named.{names_text}
use Rattle.trc_texts.proofs.Refusing.{refused}
use Rattle.meaning_commands.specs.Comparisons.{BothComeTo, HaveNoneToCompare, HaveBoth, ComparisonComesTo}
use Rattle.meaning_commands.proofs.Refusing.{program_refused, refused_so}
use Rattle.meaning_commands.proofs.comparing.both_texts.Goals as goal

pub returns-in-Err-clause-answers : goal.returns-in-Err-clause-answers
returns-in-Err-clause-answers g c = λ held faults.
    let choice = c.args.choice.now in
    let texts = c.args.texts.now in
    refused (IsRefusal choice texts) (λ l. BothComeTo l choice c.args.steps c.args.turns texts) (λ l v r. HaveNoneToCompare r) _
    (refused_so (Tells choice) texts c.in-Err.ending.cause c.in-Err.ensures.refused) held faults _ _ _

pub returns-in-Ok-image_of_program-clause-answers : goal.returns-in-Ok-image_of_program-clause-answers
returns-in-Ok-image_of_program-clause-answers g c = λ held faults.
    let choice = c.args.choice.now in
    let texts = c.args.texts.now in
    let p = c.in-Ok.program in
    let image = c.in-Ok-image_of_program.image in
    rw c.of.ensures (mapped (λ l. ComparisonComesTo l c.args.steps c.args.turns p image) (λ l. BothComeTo l choice c.args.steps c.args.turns texts) _ _ _
    (λ l v it. HaveBoth p image c.in-Ok.ensures.program c.in-Ok-image_of_program.ensures.image it) (c.compare.ensures.answers held faults))

pub refused-requires-clause-named : goal.refused-requires-clause-named
refused-requires-clause-named g c =
    let choice = c.args.choice.now in
    names_text c.args.texts.now c.refused_program.result (Tells choice)
    (program_refused (Tells choice) c.args.texts.now c.in-Ok.program c.in-Ok.ensures.program c.in-Err-image_of_program.fault c.refused_program.result c.refused_program.ensures c.in-Err-image_of_program.ensures.limit)

pub returns-clause-answers : goal.returns-clause-answers
returns-clause-answers g c = λ held faults.
    let choice = c.args.choice.now in
    let texts = c.args.texts.now in
    refused (IsRefusal choice texts) (λ l. BothComeTo l choice c.args.steps c.args.turns texts) (λ l v r. HaveNoneToCompare r) _
    (record {
      refusal = c.refused_program.result;
      is = program_refused (Tells choice) texts c.in-Ok.program c.in-Ok.ensures.program c.in-Err-image_of_program.fault c.refused_program.result c.refused_program.ensures c.in-Err-image_of_program.ensures.limit;
      cause_is = c.refused.ensures.cause;
    }) held faults _ _ _
