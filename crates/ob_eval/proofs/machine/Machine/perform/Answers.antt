use Rattle.std.proofs.Common.{◌≡◌, Bool, Ok, subst}
use Rattle.run_laws.specs.Turns.{State}
use Rattle.ob_types.specs.Store.{Store}
use Rattle.ob_types.specs.Meaning.{effect, at_most}
use Rattle.eval_at_once.specs.Here.{here_of}
use Rattle.eval_at_once.specs.AtOnce.{Done}
use Rattle.eval_tasks.specs.Tasks.{performs}
use Rattle.eval_tasks.specs.Weights.{of_statement}
use Rattle.ob_eval.specs.Steps.{before, Went, Falls}
use Rattle.ob_eval.proofs.Falling.{falls_world, statement_weighs}
use Rattle.ob_eval.proofs.Performing.{one_stops, one_done}
use Rattle.ob_eval.proofs.machine.Machine.perform.Goals as goal

pub returns-clause-went : goal.returns-clause-went
returns-clause-went c = one_stops c.args.laid.now c.args.self.now c.args.statement.now c.in-Err.stop c.perform.new.world.out c.in-Err.ensures.did

pub returns-then-done-clause-went : goal.returns-then-done-clause-went
returns-then-done-clause-went c =
    let p = c.args.laid.now in
    let m = c.args.self.now in
    let D : Bool → Type 0 = λ ok. Done (effect p (at_most p m.active.fuel) (here_of m.active) m.active.fuel c.args.statement.now m.world) (Ok ok) m.world c.perform.new.world in
    one_done p m c.args.statement.now c.perform.new.world (subst D c.if-done.true c.in-Ok.ensures.did)

pub returns-in-Ok-clause-went : goal.returns-in-Ok-clause-went
returns-in-Ok-clause-went c =
    let p = c.args.laid.now in
    let m = c.args.self.now in
    let D : Bool → Type 0 = λ ok. Done (effect p (at_most p m.active.fuel) (here_of m.active) m.active.fuel c.args.statement.now m.world) (Ok ok) m.world c.perform.new.world in
    let same : c.perform.new.world ≡ m.world = subst D c.if-done.false c.in-Ok.ensures.did in
    let W : State Store → Type 0 = λ t. Went p (before p (performs p c.args.statement.now) (record m { world = t })) c.begin.result c.begin.new.self in
    subst W same c.begin.ensures.went

pub returns-in-Ok-clause-falls : goal.returns-in-Ok-clause-falls
returns-in-Ok-clause-falls c =
    let p = c.args.laid.now in
    let m = c.args.self.now in
    let D : Bool → Type 0 = λ ok. Done (effect p (at_most p m.active.fuel) (here_of m.active) m.active.fuel c.args.statement.now m.world) (Ok ok) m.world c.perform.new.world in
    let same : c.perform.new.world ≡ m.world = subst D c.if-done.false c.in-Ok.ensures.did in
    let W : State Store → Type 0 = λ t. Falls (of_statement c.args.statement.now) (record m { world = t }) c.begin.result c.begin.new.self in
    subst W same c.begin.ensures.falls

pub returns-then-done-clause-falls : goal.returns-then-done-clause-falls
returns-then-done-clause-falls c = falls_world c.args.self.now c.perform.new.world (of_statement c.args.statement.now) c.perform.ensures.turns (statement_weighs c.args.statement.now)
