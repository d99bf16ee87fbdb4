use Rattle.std.proofs.Common.{subst}
use Rattle.run_laws.specs.Turns.{Ending}
use Rattle.ob_types.specs.Store.{Store, Trap}
use Rattle.ob_eval.specs.Steps.{Went}
use Rattle.ob_eval.proofs.Entering.{no_value, no_code, value_is}
use Rattle.ob_eval.proofs.machine.Machine.invoke_value.Goals as goal

pub returns-in-Err-take_cell-clause-went : goal.returns-in-Err-take_cell-clause-went
returns-in-Err-take_cell-clause-went c = no_value c.args.laid.now c.args.count c.args.wanted c.args.self.now c.take_last.new.self c.in-Ok.ensures.ok.1 c.take_cell.new.self c.in-Err-take_cell.stop c.in-Err-take_cell.ensures

pub returns-in-Err-code_in-clause-went : goal.returns-in-Err-code_in-clause-went
returns-in-Err-code_in-clause-went c = no_code c.args.laid.now c.args.count c.args.wanted c.args.self.now c.take_last.new.self c.in-Ok.ensures.ok.1 c.take_cell.new.self c.in-Ok-take_cell.c c.in-Ok-take_cell.ensures c.in-Err-code_in.stop c.take_cell.new.self.world.out c.in-Err-code_in.ensures

pub returns-in-Ok-code_in-clause-went : goal.returns-in-Ok-code_in-clause-went
returns-in-Ok-code_in-clause-went c =
    let p = c.args.laid.now in
    let P : Ending Store Trap (Unit {0}) → Type 0 = λ e. Went p e c.call.result c.call.new.self in
    subst P (value_is p c.args.count c.args.wanted c.args.self.now c.take_last.new.self c.in-Ok.ensures.ok.1 c.take_cell.new.self c.in-Ok-take_cell.c c.in-Ok-take_cell.ensures c.in-Ok-code_in.g c.in-Ok.arguments c.in-Ok.ensures.ok.0 c.in-Ok-code_in.ensures) c.call.ensures.went
