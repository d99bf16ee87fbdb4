use Rattle.std.proofs.Common.{◌∷◌, refl, ap, sym, ◌∙◌}
use Rattle.ob_eval.specs.Steps.{before}
use Rattle.eval_tasks.specs.declared.task.Branching.TheVariants.{Try, Chosen}
use Rattle.eval_tasks.specs.Tasks.{branching, evaluates}
use Rattle.ob_eval.proofs.Steps.{added_two, first_is}
use Rattle.ob_eval.proofs.machine.Machine.try_first.Goals as goal

pub returns-in_ok-add-in-Some-2-clause-went : goal.returns-in_ok-add-in-Some-2-clause-went
returns-in_ok-add-in-Some-2-clause-went c =
    let p = c.args.laid.now in
    let b = c.in-Some.first.now in
    let bs = c.in-Some.field-0-1.now in
    let e = c.in-Some.ensures.cases.0 in
    added_two p c.args.self.now c.add.new.self c.add-in-Some.new.self _ _ (branching p Chosen (b ∷ bs)) (evaluates p b.condition.form) c.in_ok-add-in-Some.ensures.ok c.in_ok-add-in-Some-2.ensures.ok (ap (λ l. branching p Chosen l) e) refl
    ∙ first_is p b bs c.args.self.now
    ∙ ap (λ l. before p (branching p Try l) c.args.self.now) (sym e)
