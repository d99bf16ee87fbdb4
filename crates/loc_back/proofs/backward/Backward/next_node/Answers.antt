use Rattle.std.proofs.Common.{arith}
use Rattle.std.proofs.lemmas.Grind.{common_steps}
use Rattle.loc_back.proofs.Trail.{went_on}
use Rattle.loc_back.proofs.backward.Backward.next_node.Goals as goal

pub returns-clause-simulates : goal.returns-clause-simulates
returns-clause-simulates c = went_on _ c.args.self.now c.args.params.now c.args.end.now c.args.args.now c.args.homes.now (grind (arith, common_steps))
