use Rattle.check_declared.proofs.type_parts.Bases.{at_index}
use Rattle.check_declared.proofs.type_parts.forward.waiting_at.Goals as goal

pub returns : goal.returns
returns c = at_index c.args.state.now.forward.items c.args.i _ c.requires c.index.ensures
