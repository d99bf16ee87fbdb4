use Rattle.std.proofs.Common.{arith}
use Rattle.std.proofs.lemmas.Grind.{common_steps}
use Rattle.loc_state.proofs.Trail.{brings_to}
use Rattle.loc_state.proofs.forward.Forward.bring.Goals as goal

pub returns-clause-simulates : goal.returns-clause-simulates
returns-clause-simulates c = brings_to _ c.args.self.now c.args.value c.args.reg (grind (arith, common_steps))
