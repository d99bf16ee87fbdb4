use Rattle.check_making.proofs.parameters.Stages.{stands_by}
use Rattle.check_declared.proofs.type_parts.States.{all_ok, pointer_made}
use Rattle.check_declared.proofs.type_parts.records.begin_pointer.Goals as goal

pub returns-clause-stands : goal.returns-clause-stands
returns-clause-stands c = stands_by c.requires c.new_pointer.result c.new_pointer.ensures.settled c.new_pointer.ensures.judged

pub returns-clause-grows : goal.returns-clause-grows
returns-clause-grows c = all_ok c.new_pointer.result c.new_pointer.ensures.grows

pub returns-clause-element : goal.returns-clause-element
returns-clause-element c = pointer_made c.new_pointer.new.self c.requires c.new_pointer.result c.new_pointer.ensures.judged
