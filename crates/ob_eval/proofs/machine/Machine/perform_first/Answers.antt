use Rattle.std.proofs.Common.{◌∷◌, ◌+◌, ◌≤◌, refl, ap, subst, ◌∙◌, arith}
use Rattle.run_laws.specs.Turns.{Ending}
use Rattle.ob_types.specs.Store.{Store, Trap}
use Rattle.eval_tasks.specs.Tasks.{performs}
use Rattle.eval_tasks.specs.Weights.{of_statement, all_statements}
use Rattle.ob_eval.specs.Steps.{before, Went}
use Rattle.ob_eval.proofs.Performing.{first_of}
use Rattle.ob_eval.proofs.Falling.{falls_added}
use Rattle.ob_eval.proofs.machine.Machine.perform_first.Goals as goal

pub returns-clause-went : goal.returns-clause-went
returns-clause-went c =
    let p = c.args.laid.now in
    let s = c.args.first.now in
    let Z : Ending Store Trap (Unit {0}) → Type 0 = λ e. Went p e c.begin.result c.begin.new.self in
    subst Z (ap (before p (performs p s)) c.in_ok-add.ensures.ok ∙ first_of p c.args.self.now s c.args.more.now) c.begin.ensures.went

pub returns-clause-falls : goal.returns-clause-falls
returns-clause-falls c =
    let v = of_statement c.args.first.now in
    let b = all_statements c.args.more.now in
    let enough : v + b ≤ all_statements (c.args.first.now ∷ c.args.more.now) = omega arith in
    falls_added v (all_statements (c.args.first.now ∷ c.args.more.now)) b c.args.self.now c.add.new.self c.begin.new.self _ c.begin.result c.in_ok-add.ensures.ok refl enough c.begin.ensures.falls
