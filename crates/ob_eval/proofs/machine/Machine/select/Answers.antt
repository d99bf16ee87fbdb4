use Rattle.std.proofs.Common.{List, sym, subst}
use Rattle.ob_types.specs.declared.tree.Selector.{Selector}
use Rattle.eval_tasks.specs.Tasks.{selects}
use Rattle.ob_eval.specs.Steps.{before, Went, with_handed}
use Rattle.ob_eval.specs.declared.machine.Machine.{Machine}
use Rattle.ob_eval.proofs.machine.Machine.select.Goals as goal

pub returns-in-Some-clause-went : goal.returns-in-Some-clause-went
returns-in-Some-clause-went c =
    let p = c.args.laid.now in
    let P : List Selector → Type 0 = λ l. Went p (before p (selects p l) (with_handed c.in-Ok.handed c.take.new.self)) c.select_from.result c.select_from.new.self in
    let Q : Machine → Type 0 = λ m. Went p (before p (selects p c.args.selectors.now) m) c.select_from.result c.select_from.new.self in
    subst Q (sym c.in-Ok.ensures) (subst P (sym c.in-Some.ensures.cases.0) c.select_from.ensures.went)
