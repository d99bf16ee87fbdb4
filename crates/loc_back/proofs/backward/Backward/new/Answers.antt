use Rattle.std.proofs.Common.{arith}
use Rattle.std.proofs.lemmas.Grind.{common_steps}
use Rattle.loc_back.proofs.Trail.{set_out}
use Rattle.loc_back.proofs.backward.Backward.new.Goals as goal

pub returns-clause-simulates : goal.returns-clause-simulates
returns-clause-simulates c = set_out _ c.args.homed.now c.args.regs (grind (arith, common_steps))
