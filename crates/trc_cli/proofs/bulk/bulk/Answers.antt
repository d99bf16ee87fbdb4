use Rattle.std.proofs.Common.{[], ◌∷◌, ◌∙◌, subst}
use Rattle.bulk_text.specs.Bulk.{bulk_text}
use Rattle.object_commands.specs.words.source_image.Images.{IsImageOfTexts}
use Rattle.object_commands.specs.words.source_image.Refusals.{IsRefusal}
use Rattle.trc_cli.specs.Commands.{IsRefusedAs, SummaryComesTo}
use Rattle.trc_cli.proofs.Endings.{has_image, no_image}
use Rattle.trc_cli.proofs.bulk.bulk.Goals as goal

pub returns-in-Ok-compile-clause-answers : goal.returns-in-Ok-compile-clause-answers
returns-in-Ok-compile-clause-answers g c = λ held faults left input_faults.
    let choice = c.args.choice.now in
    let made = c.in-Ok-compile.made in
    let is = subst (λ t. IsImageOfTexts choice (t ∷ []) made) (c.from_vec.ensures ∙ c.in-Ok.ensures) c.in-Ok-compile.ensures.image in
    rw c.of-in-Ok-compile.ensures
    (has_image choice (bulk_text c.args.seed c.args.size ∷ []) (λ _. SummaryComesTo c.args.steps) made _ _ _ is (c.run_and_tell.ensures.answers held faults left input_faults))

pub returns-clause-answers : goal.returns-clause-answers
returns-clause-answers g c = λ held faults left input_faults.
    let choice = c.args.choice.now in
    let cause = c.in-Err.ending.cause in
    let refused = subst (λ t. IsRefusedAs (IsRefusal choice (t ∷ [])) cause) (c.from_vec.ensures ∙ c.in-Ok.ensures) c.in-Err.ensures.refused in
    no_image choice (bulk_text c.args.seed c.args.size ∷ []) (λ _. SummaryComesTo c.args.steps) cause refused held faults left input_faults _
