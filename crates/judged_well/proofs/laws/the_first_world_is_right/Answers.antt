use Rattle.judged_well.proofs.FirstWorld.{first_right}
use Rattle.judged_well.proofs.laws.the_first_world_is_right.Goals as goal

pub returns : goal.returns
returns c = first_right
