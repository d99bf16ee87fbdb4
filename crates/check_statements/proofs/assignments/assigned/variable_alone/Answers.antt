use Rattle.check_types.specs.names.Meaning.{object_of}
use Rattle.check_statements.proofs.assignments.Assigning.{other_part}
use Rattle.check_statements.proofs.assignments.assigned.variable_alone.Goals as goal

pub returns-else-is_empty : goal.returns-else-is_empty
returns-else-is_empty c = λ t strings w other. other_part w (object_of t strings c.args.named) c.args.selectors.now other c.is_empty.result c.is_empty.ensures c.if-is_empty.false
