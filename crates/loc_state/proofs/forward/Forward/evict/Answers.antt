use Rattle.std.proofs.Common.{arith}
use Rattle.std.proofs.lemmas.Grind.{common_steps}
use Rattle.loc_state.proofs.Trail.{evicts_to}
use Rattle.loc_state.proofs.forward.Forward.evict.Goals as goal

pub returns-clause-simulates : goal.returns-clause-simulates
returns-clause-simulates c = evicts_to _ c.args.self.now c.args.reg (grind (arith, common_steps)) c.requires
