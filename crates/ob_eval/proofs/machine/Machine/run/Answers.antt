use Rattle.std.proofs.Common.{◌≡◌, ◌≤◌, Bool, [], ◌++◌, Ok, subst, arith}
use Rattle.outside.specs.Sink.{TookAll, TookFront}
use Rattle.outside.proofs.Taking.{all_none}
use Rattle.ob_eval.specs.declared.answer.Eval.{Eval}
use Rattle.ob_eval.specs.Evaluated.{Finished}
use Rattle.ob_eval.specs.Steps.{left, Ran}
use Rattle.ob_eval.proofs.Pieces.{prefixed_none, no_memory, fault, goes_on, took_more, ended, stopped, still_sensible}
use Rattle.ob_eval.proofs.machine.Machine.run.Goals as goal

pub turns-init : goal.turns-init
turns-init g c = record {
  taken = ([], all_none (g.O.Sink.account c.args.out.now), prefixed_none (left c.args.laid.now c.args.self.now));
  sense = c.requires.sensible;
  faults = omega arith;
}

pub returns-in-NoMemory-clause-told : goal.returns-in-NoMemory-clause-told
returns-in-NoMemory-clause-told g c =
    let i = c.turns.invariant.taken in
    no_memory c.args.laid.now c.args.self.now c.turns.self (g.O.Sink.account c.args.out.now) (g.O.Sink.account c.turns.out) i.0 i.1 i.2

pub returns-in_default-clause-told : goal.returns-in_default-clause-told
returns-in_default-clause-told g c =
    let i = c.turns.invariant.taken in
    let A = g.O.Sink.account c.args.out.now in
    let B = g.O.Sink.account c.turns.out in
    let C = g.O.Sink.account c.finish.new.out in
    let out = c.until_spent.new.self.world.out in
    let F : Eval → Type 0 = λ e. Finished e c.finish.result (TookAll B C out) (TookFront B C out) in
    stopped c.args.laid.now c.args.self.now c.turns.self A B i.0 i.1 i.2 c.until_spent.new.self c.in-Err.stop C c.finish.result c.turns.invariant.sense c.in_default.not-NoMemory c.in-Err.ensures.ran (subst F c.answer_of.ensures c.finish.ensures.told)

pub returns-then-done-clause-told : goal.returns-then-done-clause-told
returns-then-done-clause-told g c =
    let i = c.turns.invariant.taken in
    let p = c.args.laid.now in
    let R : Bool → Type 0 = λ b. Ran p (left p c.turns.self) (Ok b) c.until_spent.new.self in
    ended p c.args.self.now c.turns.self (g.O.Sink.account c.args.out.now) (g.O.Sink.account c.turns.out) i.0 i.1 i.2 c.until_spent.new.self (g.O.Sink.account c.finish-then-done.new.out) c.finish-then-done.result (subst R c.if-done.true c.in-Ok.ensures.ran) c.finish-then-done.ensures.told

pub returns-in-Err-drain-clause-told : goal.returns-in-Err-drain-clause-told
returns-in-Err-drain-clause-told g c =
    let i = c.turns.invariant.taken in
    let p = c.args.laid.now in
    let R : Bool → Type 0 = λ b. Ran p (left p c.turns.self) (Ok b) c.until_spent.new.self in
    fault p c.args.self.now c.turns.self (g.O.Sink.account c.args.out.now) (g.O.Sink.account c.turns.out) i.0 i.1 i.2 c.until_spent.new.self (g.O.Sink.account c.drain.new.out) (subst R c.if-done.false c.in-Ok.ensures.ran) c.in-Err-drain.ensures.front

pub turns-preserved : goal.turns-preserved
turns-preserved g c =
    let i = c.turns.invariant.taken in
    let f = c.turns.invariant.faults in
    let p = c.args.laid.now in
    let A = g.O.Sink.account c.args.out.now in
    let B = g.O.Sink.account c.turns.out in
    let C = g.O.Sink.account c.drain.new.out in
    let R : Bool → Type 0 = λ b. Ran p (left p c.turns.self) (Ok b) c.until_spent.new.self in
    let ran : left p c.turns.self ≡ left p c.until_spent.new.self = subst R c.if-done.false c.in-Ok.ensures.ran in
    let d = c.in-Ok-drain.ensures.drained in
    let rises : B.faults ≤ C.faults = c.drain.ensures.rises in
    record {
      taken = (
        i.0 ++ d.front,
        took_more p c.args.self.now c.turns.self A B i.0 i.1 i.2 c.until_spent.new.self c.drain.new.self C d,
        goes_on p c.args.self.now c.turns.self A B i.0 i.1 i.2 c.until_spent.new.self c.drain.new.self C ran d,
      );
      sense = still_sensible p (TookAll B C) c.turns.self c.until_spent.new.self c.drain.new.self ran d c.turns.invariant.sense;
      faults = omega (arith, f, rises);
    }
