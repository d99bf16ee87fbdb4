use Rattle.std.proofs.Common.{◌+◌, refl, ◌∙◌}
use Rattle.eval_tasks.specs.Weights.{all_statements, all_branches}
use Rattle.ob_eval.proofs.Falling.{falls_one, chosen_lighter}
use Rattle.eval_tasks.specs.declared.task.Branching.TheVariants.{Try}
use Rattle.eval_tasks.specs.Tasks.{branching, performs_all, otherwise_all}
use Rattle.ob_eval.proofs.Steps.{added_one, added_two}
use Rattle.ob_eval.proofs.Cases.{if_stops, if_body, if_other, if_asks}
use Rattle.ob_eval.proofs.machine.Machine.begin_if.Goals as goal

pub returns-in-Err-clause-went : goal.returns-in-Err-clause-went
returns-in-Err-clause-went c = if_stops c.args.laid.now c.args.self.now c.args.branches.now c.args.other.now c.in-Err.stop c.args.self.now.world.out c.in-Err.ensures.chose

pub returns-in_ok-add-in-Ok-Body-clause-went : goal.returns-in_ok-add-in-Ok-Body-clause-went
returns-in_ok-add-in-Ok-Body-clause-went c =
    let p = c.args.laid.now in
    let m = c.args.self.now in
    added_one p m c.add.new.self _ (performs_all p c.in-Ok-Body.body.now) c.in_ok-add-in-Ok-Body.ensures.ok refl
    ∙ if_body p m c.args.branches.now c.args.other.now c.in-Ok-Body.body.now (rw c.in-Ok-Body.field-0-is at c.in-Ok-Body.ensures.chose)

pub returns-in_ok-add-in-Ok-Nothing-clause-went : goal.returns-in_ok-add-in-Ok-Nothing-clause-went
returns-in_ok-add-in-Ok-Nothing-clause-went c =
    let p = c.args.laid.now in
    let m = c.args.self.now in
    added_one p m c.add-in-Ok-Nothing.new.self _ (performs_all p c.args.other.now) c.in_ok-add-in-Ok-Nothing.ensures.ok refl
    ∙ if_other p m c.args.branches.now c.args.other.now (rw c.in-Ok-Nothing.field-0-is at c.in-Ok-Nothing.ensures.chose)

pub returns-in_ok-add-in-Ok-Unknown-2-clause-went : goal.returns-in_ok-add-in-Ok-Unknown-2-clause-went
returns-in_ok-add-in-Ok-Unknown-2-clause-went c =
    let p = c.args.laid.now in
    let m = c.args.self.now in
    added_two p m c.add-in-Ok-Unknown.new.self c.add-in-Ok-Unknown-2.new.self _ _ (otherwise_all p c.args.other.now) (branching p Try c.args.branches.now) c.in_ok-add-in-Ok-Unknown.ensures.ok c.in_ok-add-in-Ok-Unknown-2.ensures.ok refl refl
    ∙ if_asks p m c.args.branches.now c.args.other.now

pub returns-in_ok-add-in-Ok-Body-clause-falls : goal.returns-in_ok-add-in-Ok-Body-clause-falls
returns-in_ok-add-in-Ok-Body-clause-falls c =
    let bs = c.args.branches.now in
    let n = all_statements c.args.other.now in
    let body = c.in-Ok-Body.body.now in
    let a = rw c.in-Ok-Body.field-0-is at c.in-Ok-Body.ensures.among in
    falls_one c.args.self.now c.add.new.self _ (2 + (all_branches bs + n)) (all_statements body) c.in_ok-add-in-Ok-Body.ensures.ok refl (chosen_lighter bs a.0 a.1 a.2 body n a.3 a.4)
