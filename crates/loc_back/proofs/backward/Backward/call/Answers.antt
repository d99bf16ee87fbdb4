use Rattle.std.proofs.Common.{arith}
use Rattle.std.proofs.lemmas.Grind.{common_steps}
use Rattle.lir_core.specs.Flows.{operation_of}
use Rattle.loc_back.proofs.Trail.{passed_call}
use Rattle.loc_back.proofs.backward.Backward.call.Goals as goal

pub returns-clause-simulates : goal.returns-clause-simulates
returns-clause-simulates c = passed_call _ c.args.self.now c.args.index (operation_of c.args.lir.now) c.args.args.now (grind (arith, common_steps))
