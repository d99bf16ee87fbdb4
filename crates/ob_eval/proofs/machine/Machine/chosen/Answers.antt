use Rattle.std.proofs.Common.{List, sym, subst}
use Rattle.ob_types.specs.declared.statements.Branch.{Branch}
use Rattle.eval_tasks.specs.declared.task.Branching.TheVariants.{Chosen}
use Rattle.eval_tasks.specs.Tasks.{branching}
use Rattle.eval_tasks.specs.Weights.{of_branching}
use Rattle.ob_eval.specs.Steps.{before, Went, Falls}
use Rattle.ob_eval.proofs.machine.Machine.chosen.Goals as goal

pub returns-in-Some-clause-went : goal.returns-in-Some-clause-went
returns-in-Some-clause-went c =
    let p = c.args.laid.now in
    let P : List Branch → Type 0 = λ l. Went p (before p (branching p Chosen l) c.args.self.now) c.choose_first.result c.choose_first.new.self in
    subst P (sym c.in-Some.ensures.cases.0) c.choose_first.ensures.went

pub returns-in-Some-clause-falls : goal.returns-in-Some-clause-falls
returns-in-Some-clause-falls c =
    let P : List Branch → Type 0 = λ l. Falls (of_branching Chosen l) c.args.self.now c.choose_first.result c.choose_first.new.self in
    subst P (sym c.in-Some.ensures.cases.0) c.choose_first.ensures.falls
