use Rattle.std.proofs.Common.{arith}
use Rattle.std.proofs.lemmas.Grind.{common_steps}
use Rattle.loc_back.proofs.Trail.{came_home}
use Rattle.loc_back.proofs.backward.Backward.close.Goals as goal

pub returns-clause-simulates : goal.returns-clause-simulates
returns-clause-simulates c = came_home c.mark.new.self c.args.self.now c.args.t.now.flow.now c.args.t.now.live.now c.args.t.now.trace.now.nodes (grind (arith, common_steps))
