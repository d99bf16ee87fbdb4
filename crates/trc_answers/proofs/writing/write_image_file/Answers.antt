use Rattle.std.proofs.Common.{◌∙◌}
use Rattle.image_file.specs.Spelling.{image_bytes}
use Rattle.trc_answers.proofs.Answering.{wrote}
use Rattle.trc_answers.proofs.writing.write_image_file.Goals as goal

pub returns-in-Ok-clause-answers : goal.returns-in-Ok-clause-answers
returns-in-Ok-clause-answers g c = λ left faults out.
    wrote c.args.name.now c.as_slice.result.now (image_bytes c.args.image.now) _ _ _ (c.as_slice.ensures.value ∙ c.in-Ok.ensures.bytes) (c.write_file.ensures.answers left faults out)
