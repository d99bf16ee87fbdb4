use Rattle.flow_drawing.proofs.Apart.{starts, ends, down}
use Rattle.flow_drawing.proofs.laws.edges_meet_boxes.Goals as goal

pub returns-clause-start : goal.returns-clause-start
returns-clause-start c = starts

pub returns-clause-end : goal.returns-clause-end
returns-clause-end c = ends

pub returns-clause-down : goal.returns-clause-down
returns-clause-down c = down
