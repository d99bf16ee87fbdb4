use Rattle.std.proofs.Common.{◌≡◌, ◌∙◌}
use Rattle.image_file.specs.Spelling.{image_bytes}
use Rattle.trc_answers.specs.Verdict.{Accepts}
use Rattle.trc_answers.proofs.Answering.{as_wanted}
use Rattle.trc_answers.proofs.writing.accept_image.Goals as goal

pub returns-in-Ok-clause-answers : goal.returns-in-Ok-clause-answers
returns-in-Ok-clause-answers g c = λ left faults.
    as_wanted (λ bytes verdict. verdict ≡ Accepts c.args.name.now bytes) c.as_slice.result.now (image_bytes c.args.image.now) _ _ _ (c.as_slice.ensures.value ∙ c.in-Ok.ensures.bytes) (c.accept.ensures.answers left faults)
