use Rattle.std.proofs.Common.{arith}
use Rattle.std.proofs.lemmas.Grind.{common_steps}
use Rattle.loc_back.proofs.Trail.{gave_up}
use Rattle.loc_back.proofs.backward.Backward.evict.Goals as goal

pub returns-clause-simulates : goal.returns-clause-simulates
returns-clause-simulates c = gave_up _ c.args.self.now c.args.reg (grind (arith, common_steps))
