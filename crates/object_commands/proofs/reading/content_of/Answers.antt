use Rattle.object_commands.specs.Links.{BreaksRule}
use Rattle.object_commands.proofs.reading.content_of.Goals as goal

pub returns-in-Ok-clause-content : goal.returns-in-Ok-clause-content
returns-in-Ok-clause-content c = record { few = c.requires; object_is = c.in-Ok.ensures.found.0; is = c.in-Ok.ensures.found.1 }

pub returns-in-Err-Fault-clause-content : goal.returns-in-Err-Fault-clause-content
returns-in-Err-Fault-clause-content c = BreaksRule c.requires (rw c.in-Err-Fault.field-0-is at c.in-Err-Fault.ensures.exact)
