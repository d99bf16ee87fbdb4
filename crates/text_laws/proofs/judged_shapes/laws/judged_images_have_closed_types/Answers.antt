use Rattle.text_laws.proofs.judged_shapes.Programs.{judged_closed}
use Rattle.text_laws.proofs.judged_shapes.laws.judged_images_have_closed_types.Goals as goal

pub returns : goal.returns
returns c = judged_closed
