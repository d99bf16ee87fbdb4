use Rattle.std.proofs.Common.{arith}
use Rattle.std.proofs.lemmas.Grind.{common_steps}
use Rattle.loc_state.proofs.Trail.{drops_to}
use Rattle.loc_state.proofs.forward.Forward.drop_value.Goals as goal

pub returns-clause-simulates : goal.returns-clause-simulates
returns-clause-simulates c = drops_to _ c.args.self.now c.args.value (grind (arith, common_steps))
