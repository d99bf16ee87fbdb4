use Rattle.std.proofs.Common.{subst}
use Rattle.run_laws.specs.Turns.{Ending}
use Rattle.ob_types.specs.Store.{Store, Trap}
use Rattle.ob_eval.specs.Steps.{Went}
use Rattle.ob_eval.proofs.Entering.{invoke_is}
use Rattle.ob_eval.proofs.machine.Machine.invoke.Goals as goal

pub returns-in-Ok-clause-went : goal.returns-in-Ok-clause-went
returns-in-Ok-clause-went c =
    let p = c.args.laid.now in
    let P : Ending Store Trap (Unit {0}) → Type 0 = λ e. Went p e c.call.result c.call.new.self in
    subst P (invoke_is p c.args.g c.args.count c.args.wanted c.args.self.now c.take_last.new.self c.in-Ok.arguments c.in-Ok.ensures.ok.0 c.in-Ok.ensures.ok.1) c.call.ensures.went
