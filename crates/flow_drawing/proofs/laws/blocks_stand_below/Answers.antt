use Rattle.flow_drawing.proofs.Below.{smaller_above, entering_above}
use Rattle.flow_drawing.proofs.laws.blocks_stand_below.Goals as goal

pub returns-clause-smaller : goal.returns-clause-smaller
returns-clause-smaller c = smaller_above

pub returns-clause-entering : goal.returns-clause-entering
returns-clause-entering c = entering_above
