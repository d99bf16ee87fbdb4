use Rattle.planned_image.proofs.Own.{own_image}
use Rattle.planned_image.proofs.laws.own_results_have_one_image.Goals as goal

pub returns : goal.returns
returns c choice p cuts image are few = own_image choice p cuts are few image
