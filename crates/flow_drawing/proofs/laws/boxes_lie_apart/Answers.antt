use Rattle.flow_drawing.proofs.Apart.{each_box, within, apart}
use Rattle.flow_drawing.proofs.laws.boxes_lie_apart.Goals as goal

pub returns-clause-each : goal.returns-clause-each
returns-clause-each c = each_box

pub returns-clause-within : goal.returns-clause-within
returns-clause-within c = within

pub returns-clause-apart : goal.returns-clause-apart
returns-clause-apart c = apart
