use Rattle.std.proofs.Common.{true, refl, ap, sym, ◌∙◌}
use Rattle.ob_eval.specs.Steps.{before}
use Rattle.eval_tasks.specs.declared.task.Branching.TheVariants.{Rounds, Again}
use Rattle.eval_tasks.specs.Tasks.{branching}
use Rattle.ob_eval.proofs.Steps.{added_one, again_is, again_stops, holds_on}
use Rattle.ob_eval.proofs.machine.Machine.again.Goals as goal

pub returns-in-Err-clause-went : goal.returns-in-Err-clause-went
returns-in-Err-clause-went c = again_stops c.args.laid.now c.args.n c.args.all.now c.args.self.now c.take_number.new.self c.in-Err.stop c.in-Err.ensures

pub returns-in_ok-add-in-Ok-clause-went : goal.returns-in_ok-add-in-Ok-clause-went
returns-in_ok-add-in-Ok-clause-went c =
    let p = c.args.laid.now in
    added_one p c.take_number.new.self c.add.new.self _ (branching p (Rounds c.args.n) c.args.all.now) c.in_ok-add-in-Ok.ensures.ok refl
    ∙ again_is p c.args.n c.args.all.now c.in-Ok.a c.take_number.new.self true (holds_on c.in-Ok.a c.if-a-eq0.false)
    ∙ ap (before p (branching p (Again c.args.n) c.args.all.now)) (sym c.in-Ok.ensures)
