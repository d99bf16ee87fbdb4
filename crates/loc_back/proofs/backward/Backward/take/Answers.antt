use Rattle.std.proofs.Common.{arith}
use Rattle.std.proofs.lemmas.Grind.{common_steps}
use Rattle.loc_back.proofs.Trail.{took}
use Rattle.loc_back.proofs.backward.Backward.take.Goals as goal

pub returns-clause-simulates : goal.returns-clause-simulates
returns-clause-simulates c = took _ c.args.self.now c.args.value c.args.reg (grind (arith, common_steps))
