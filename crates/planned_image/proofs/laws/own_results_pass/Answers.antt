use Rattle.planned_image.proofs.Own.{own_pass}
use Rattle.planned_image.proofs.laws.own_results_pass.Goals as goal

pub returns : goal.returns
returns c choice p cuts plan lives are = own_pass choice p cuts are plan lives
