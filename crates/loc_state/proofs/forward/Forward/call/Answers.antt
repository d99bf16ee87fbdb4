use Rattle.std.proofs.Common.{arith}
use Rattle.std.proofs.lemmas.Grind.{common_steps}
use Rattle.lir_core.specs.Flows.{operation_of}
use Rattle.loc_state.proofs.Trail.{calls_to}
use Rattle.loc_state.proofs.forward.Forward.call.Goals as goal

pub returns-clause-simulates : goal.returns-clause-simulates
returns-clause-simulates c = calls_to _ c.args.self.now c.args.index (operation_of c.args.lir.now) c.args.keep.now (grind (arith, common_steps))
