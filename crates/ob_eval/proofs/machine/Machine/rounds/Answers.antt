use Rattle.std.proofs.Common.{◌-◌, refl, ap, ◌∙◌, arith}
use Rattle.eval_tasks.specs.declared.task.Branching.TheVariants.{Try, Rounds, Again}
use Rattle.eval_tasks.specs.Tasks.{branching, performs_all}
use Rattle.ob_eval.specs.declared.machine.Machine.{Machine}
use Rattle.ob_eval.proofs.Steps.{added_two}
use Rattle.ob_eval.proofs.LoopSteps.{no_round, no_turn, condition_stops, no_branch, asks, body_stops, some_done, all_done, none_there}
use Rattle.ob_eval.proofs.machine.Machine.rounds.Goals as goal

pub returns-then-n-eq0-clause-went : goal.returns-then-n-eq0-clause-went
returns-then-n-eq0-clause-went c = no_round c.args.laid.now c.args.self.now c.rounds.self c.args.most c.rounds.n c.args.all.now c.rounds.invariant.left c.if-n-eq0.true

pub returns-in-Err-clause-went : goal.returns-in-Err-clause-went
returns-in-Err-clause-went c = no_turn c.args.laid.now c.args.self.now c.rounds.self c.args.most c.rounds.n c.args.all.now c.rounds.invariant.left c.if-n-eq0.false c.in-Err.stop c.spend.new.self.out c.in-Err.ensures.did

pub returns-in-Err-choose-clause-went : goal.returns-in-Err-choose-clause-went
returns-in-Err-choose-clause-went c = condition_stops c.args.laid.now c.args.self.now c.rounds.self c.args.most c.rounds.n c.args.all.now c.rounds.invariant.left c.if-n-eq0.false c.spend.new.self c.in-Ok.ensures.did c.in-Err-choose.stop c.spend.new.self.out c.in-Err-choose.ensures.chose

pub returns-in-Ok-Nothing-clause-went : goal.returns-in-Ok-Nothing-clause-went
returns-in-Ok-Nothing-clause-went c = no_branch c.args.laid.now c.args.self.now c.rounds.self c.args.most c.rounds.n c.args.all.now c.rounds.invariant.left c.if-n-eq0.false c.spend.new.self c.in-Ok.ensures.did (rw c.in-Ok-Nothing.field-0-is at c.in-Ok-Nothing.ensures.chose)

pub returns-in-Ok-Unknown-clause-went : goal.returns-in-Ok-Unknown-clause-went
returns-in-Ok-Unknown-clause-went c =
    let p = c.args.laid.now in
    let m = c.rounds.self in
    let n = c.rounds.n in
    let bs = c.args.all.now in
    let t = c.spend.new.self in
    added_two p (record m { world = t }) c.add.new.self c.add-in-Ok-Unknown.new.self _ _ (branching p (Again (n - 1)) bs) (branching p Try bs) c.in_ok-add-in-Ok-Unknown.ensures.ok c.in_ok-add-in-Ok-Unknown-2.ensures.ok refl refl
    ∙ asks p c.args.self.now m c.args.most n bs c.rounds.invariant.left c.if-n-eq0.false t c.in-Ok.ensures.did

pub returns-in-Err-perform_some-clause-went : goal.returns-in-Err-perform_some-clause-went
returns-in-Err-perform_some-clause-went c = body_stops c.args.laid.now c.args.self.now c.rounds.self c.args.most c.rounds.n c.args.all.now c.rounds.invariant.left c.if-n-eq0.false c.spend.new.self c.in-Ok.ensures.did c.in-Ok-Body.body.now (rw c.in-Ok-Body.field-0-is at c.in-Ok-Body.ensures.chose) c.in-Err-perform_some.stop c.perform_some.new.world.out c.in-Err-perform_some.ensures.did

pub returns-then-more-eq0-clause-went : goal.returns-then-more-eq0-clause-went
returns-then-more-eq0-clause-went c =
    let p = c.args.laid.now in
    let m = c.rounds.self in
    let n = c.rounds.n in
    let bs = c.args.all.now in
    let u = c.perform_some.new.world in
    let more = c.in-Ok-perform_some.rest.now in
    added_two p (record m { world = u }) c.add-then-more-eq0.new.self c.add-then-more-eq0-2.new.self _ _ (branching p (Rounds (n - 1)) bs) (performs_all p more) c.in_ok-add-in-Ok-perform_some.ensures.ok c.in_ok-add-in-Ok-perform_some-2.ensures.ok refl refl
    ∙ some_done p c.args.self.now m c.args.most n bs c.rounds.invariant.left c.if-n-eq0.false c.spend.new.self c.in-Ok.ensures.did c.in-Ok-Body.body.now (rw c.in-Ok-Body.field-0-is at c.in-Ok-Body.ensures.chose) more u c.in-Ok-perform_some.ensures.did

pub rounds-preserved : goal.rounds-preserved
rounds-preserved c =
    let u = c.perform_some.new.world in
    let M : Machine → Machine = λ z. record z { world = u } in
    let i = c.rounds.invariant in
    let spent = c.in-Ok.ensures.turns in
    let kept = c.perform_some.ensures.turns in
    record {
      same = ap M i.same;
      left = all_done c.args.laid.now c.args.self.now c.rounds.self c.args.most c.rounds.n c.args.all.now i.left c.if-n-eq0.false c.spend.new.self c.in-Ok.ensures.did c.in-Ok-Body.body.now (rw c.in-Ok-Body.field-0-is at c.in-Ok-Body.ensures.chose) c.in-Ok-perform_some.rest.now u (none_there c.in-Ok-perform_some.rest.now c.is_empty.result c.is_empty.ensures c.if-not-is_empty.false) c.in-Ok-perform_some.ensures.did;
      turns = omega (arith, i.turns, spent, kept);
    }
