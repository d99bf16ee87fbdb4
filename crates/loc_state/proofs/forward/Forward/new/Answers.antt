use Rattle.std.proofs.Common.{arith}
use Rattle.std.proofs.lemmas.Grind.{common_steps}
use Rattle.loc_state.proofs.Trail.{starts_to}
use Rattle.loc_state.proofs.forward.Forward.new.Goals as goal

pub returns-clause-simulates : goal.returns-clause-simulates
returns-clause-simulates c x = starts_to x _ c.args.start (grind (arith, common_steps))
