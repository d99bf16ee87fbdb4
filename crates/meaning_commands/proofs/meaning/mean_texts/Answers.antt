use Rattle.trc_answers.proofs.Answering.{mapped}
use Rattle.trc_texts.proofs.Refusing.{refused}
use Rattle.trc_texts.specs.words.source_image.Refusals.{IsRefusalOfTraces}
use Rattle.meaning_commands.specs.Meanings.{MeaningComesTo, MeanComeTo, HaveNoMeaning, HaveMeaning}
use Rattle.meaning_commands.specs.Programs.{usual_choice}
use Rattle.meaning_commands.proofs.meaning.mean_texts.Goals as goal

pub returns-in-Ok-clause-answers : goal.returns-in-Ok-clause-answers
returns-in-Ok-clause-answers g c = λ held faults.
    rw c.of.ensures (mapped (λ l. MeaningComesTo l c.args.turns c.in-Ok.program) (λ l. MeanComeTo l c.args.turns c.args.texts.now) _ _ _
    (λ l v it. HaveMeaning c.in-Ok.program c.in-Ok.ensures.program c.in-Ok.ensures.within it) (c.mean_program.ensures.answers held faults))

pub returns-in-Err-clause-answers : goal.returns-in-Err-clause-answers
returns-in-Err-clause-answers g c = λ held faults.
    refused (IsRefusalOfTraces usual_choice c.args.texts.now) (λ l. MeanComeTo l c.args.turns c.args.texts.now) (λ l v r. HaveNoMeaning r) _ c.in-Err.ensures.refused held faults _ _ _
