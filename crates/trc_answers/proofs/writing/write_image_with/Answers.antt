use Rattle.std.proofs.Common.{◌≡◌, ◌∙◌}
use Rattle.image_file.specs.Spelling.{image_bytes}
use Rattle.trc_answers.specs.Verdict.{WritesBoth}
use Rattle.trc_answers.proofs.Answering.{as_wanted}
use Rattle.trc_answers.proofs.writing.write_image_with.Goals as goal

pub returns-in-Ok-clause-answers : goal.returns-in-Ok-clause-answers
returns-in-Ok-clause-answers g c = λ left faults out.
    as_wanted (λ bytes verdict. verdict ≡ WritesBoth c.args.name.now bytes c.args.other.now c.args.others.now) c.as_slice.result.now (image_bytes c.args.image.now) _ _ _
    (c.as_slice.ensures.value ∙ c.in-Ok.ensures.bytes) (c.write_both.ensures.answers left faults out)
