use Rattle.std.proofs.Common.{◌≤◌, List, sym, subst}
use Rattle.run_laws.specs.Turns.{Ending}
use Rattle.ob_types.specs.Store.{Store, Trap}
use Rattle.ob_types.specs.declared.statements.Stmt.{Stmt}
use Rattle.eval_tasks.specs.Tasks.{performs_all}
use Rattle.eval_tasks.specs.Weights.{all_statements}
use Rattle.ob_eval.specs.Steps.{before, Went, Falls}
use Rattle.ob_eval.proofs.LoopSteps.{empty_is}
use Rattle.ob_eval.proofs.Performing.{all_stop, none_left, some_left}
use Rattle.ob_eval.proofs.Falling.{falls_behind, falls_world, statements_weigh, end_lighter}
use Rattle.ob_eval.proofs.machine.Machine.perform_all.Goals as goal

pub returns-in-Err-clause-went : goal.returns-in-Err-clause-went
returns-in-Err-clause-went c = all_stop c.args.laid.now c.args.self.now c.args.all.now c.in-Err.stop c.perform_some.new.world.out c.in-Err.ensures.did

pub returns-in-None-clause-went : goal.returns-in-None-clause-went
returns-in-None-clause-went c = none_left c.args.laid.now c.args.self.now c.args.all.now c.in-Ok.rest.now c.perform_some.new.world (empty_is c.in-Ok.rest.now c.in-None.ensures.cases) c.in-Ok.ensures.did

pub returns-in-Some-clause-went : goal.returns-in-Some-clause-went
returns-in-Some-clause-went c =
    let p = c.args.laid.now in
    let m = c.args.self.now in
    let t = c.perform_some.new.world in
    let Z : Ending Store Trap (Unit {0}) → Type 0 = λ e. Went p e c.perform_first.result c.perform_first.new.self in
    let P : List Stmt → Type 0 = λ l. Went p (before p (performs_all p l) (record m { world = t })) c.perform_first.result c.perform_first.new.self in
    subst Z (some_left p m c.args.all.now c.in-Ok.rest.now t c.in-Ok.ensures.did) (subst P (sym c.in-Some.ensures.cases.0) c.perform_first.ensures.went)

pub returns-in-Some-clause-falls : goal.returns-in-Some-clause-falls
returns-in-Some-clause-falls c =
    let m = c.args.self.now in
    let t = c.perform_some.new.world in
    let more = c.in-Ok.rest.now in
    let all = c.args.all.now in
    let end = c.in-Ok.ensures.end in
    let P : List Stmt → Type 0 = λ l. Falls (all_statements l) (record m { world = t }) c.perform_first.result c.perform_first.new.self in
    let L : List Stmt → Type 0 = λ l. all_statements more ≤ all_statements l in
    falls_behind (all_statements more) (all_statements all) m c.perform_first.new.self t c.perform_first.result c.perform_some.ensures.turns (subst L (sym end.1) (end_lighter end.0 more)) (subst P (sym c.in-Some.ensures.cases.0) c.perform_first.ensures.falls)

pub returns-in-None-clause-falls : goal.returns-in-None-clause-falls
returns-in-None-clause-falls c = falls_world c.args.self.now c.perform_some.new.world (all_statements c.args.all.now) c.perform_some.ensures.turns (statements_weigh c.args.all.now)
