use Rattle.std.proofs.Common.{arith}
use Rattle.std.proofs.lemmas.Grind.{common_steps}
use Rattle.lir_core.specs.Flows.{operation_of}
use Rattle.loc_back.proofs.Trail.{began}
use Rattle.loc_back.proofs.backward.Backward.define.Goals as goal

pub returns-clause-simulates : goal.returns-clause-simulates
returns-clause-simulates c = began _ c.args.self.now c.args.index (operation_of c.args.lir.now) c.args.reg (grind (arith, common_steps))
