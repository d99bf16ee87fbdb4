use Rattle.std.proofs.Common.{List, sym, subst}
use Rattle.ob_types.specs.declared.tree.Argument.{Argument}
use Rattle.eval_tasks.specs.Tasks.{gathers}
use Rattle.ob_eval.specs.Steps.{before, Went}
use Rattle.ob_eval.proofs.machine.Machine.gather.Goals as goal

pub returns-in-Some-clause-went : goal.returns-in-Some-clause-went
returns-in-Some-clause-went c =
    let p = c.args.laid.now in
    let P : List Argument → Type 0 = λ l. Went p (before p (gathers p l) c.args.self.now) c.argument.result c.argument.new.self in
    subst P (sym c.in-Some.ensures.cases.0) c.argument.ensures.went
