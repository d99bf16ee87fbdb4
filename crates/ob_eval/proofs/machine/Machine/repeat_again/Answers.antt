use Rattle.std.proofs.Common.{sym, ap, refl, ◌∙◌}
use Rattle.ob_types.specs.Operators.{holds}
use Rattle.eval_tasks.specs.declared.task.Stage.TheVariants.{Rounds, Behind}
use Rattle.eval_tasks.specs.Tasks.{staged, performs_all}
use Rattle.ob_eval.specs.Steps.{before}
use Rattle.ob_eval.proofs.Steps.{added_two}
use Rattle.ob_eval.proofs.LoopSteps.{repeat_on, repeat_no_number}
use Rattle.ob_eval.proofs.machine.Machine.repeat_again.Goals as goal

pub returns-in-Err-clause-went : goal.returns-in-Err-clause-went
returns-in-Err-clause-went c = repeat_no_number c.args.laid.now c.args.statement.now c.args.body.now c.requires.is.0 c.requires.is.1 c.args.self.now c.args.n c.take_number.new.self c.in-Err.stop c.in-Err.ensures

pub returns-then-a-eq0-clause-went : goal.returns-then-a-eq0-clause-went
returns-then-a-eq0-clause-went c =
    let p = c.args.laid.now in
    let s = c.args.statement.now in
    let body = c.args.body.now in
    let m = c.take_number.new.self in
    added_two p m c.add.new.self c.add-then-a-eq0.new.self _ _ (staged p (Rounds c.args.n) s) (performs_all p body) c.in_ok-add-in-Ok.ensures.ok c.in_ok-add-in-Ok-2.ensures.ok refl refl
    ∙ repeat_on p s body c.requires.is.0 c.requires.is.1 m c.args.n c.in-Ok.a (ap holds c.if-a-eq0.true)
    ∙ ap (before p (staged p (Behind c.args.n) s)) (sym c.in-Ok.ensures)
