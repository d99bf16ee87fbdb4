use Rattle.pool_core.proofs.Hands.{finishes_iff}
use Rattle.pool_core.proofs.machine.may.Goals as goal

pub returns-in-Finish-Trace : goal.returns-in-Finish-Trace
returns-in-Finish-Trace c P log i fits within = finishes_iff P c.args.event c.args.hand.now log i c.in-Finish-Trace.field-0-1 c.in-Finish-Trace.field-1-1 c.is_none.result c.in-Finish-Trace.is-0 c.in-Finish-Trace.is-1 fits within c.is_none.ensures
