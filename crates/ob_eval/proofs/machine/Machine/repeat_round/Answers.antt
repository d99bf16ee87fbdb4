use Rattle.std.proofs.Common.{◌≡◌, ◌-◌, Bool, refl, subst, ◌∙◌}
use Rattle.run_laws.specs.Turns.{Gives}
use Rattle.ob_types.specs.Statements.{test}
use Rattle.ob_types.specs.Meaning.{value, at_most}
use Rattle.eval_at_once.specs.Here.{here_of}
use Rattle.eval_tasks.specs.declared.task.Stage.TheVariants.{Rounds, Behind}
use Rattle.eval_tasks.specs.Tasks.{staged, evaluates, performs_all}
use Rattle.ob_eval.proofs.Steps.{added_two}
use Rattle.ob_eval.proofs.LoopSteps.{repeat_no_turn, test_stops, test_asks, test_ends, test_goes_on}
use Rattle.ob_eval.proofs.machine.Machine.repeat_round.Goals as goal

pub returns-in-Err-clause-went : goal.returns-in-Err-clause-went
returns-in-Err-clause-went c = repeat_no_turn c.args.laid.now c.args.statement.now c.args.body.now c.args.condition.now.form c.requires.is c.args.self.now c.args.n c.if-n-eq0.false c.in-Err.stop c.spend.new.self.out c.in-Err.ensures.did

pub returns-in-Err-test-clause-went : goal.returns-in-Err-test-clause-went
returns-in-Err-test-clause-went c = test_stops c.args.laid.now c.args.statement.now c.args.body.now c.args.condition.now.form c.requires.is c.args.self.now c.args.n c.if-n-eq0.false c.spend.new.self c.in-Ok.ensures.did c.in-Err-test.stop c.spend.new.self.out c.in-Err-test.ensures

pub returns-in_ok-add-in-Ok-None-2-clause-went : goal.returns-in_ok-add-in-Ok-None-2-clause-went
returns-in_ok-add-in-Ok-None-2-clause-went c =
    let p = c.args.laid.now in
    added_two p (record c.args.self.now { world = c.spend.new.self }) c.add.new.self c.add-in-Ok-None.new.self _ _ (staged p (Behind (c.args.n - 1)) c.args.statement.now) (evaluates p c.args.condition.now.form) c.in_ok-add-in-Ok-None.ensures.ok c.in_ok-add-in-Ok-None-2.ensures.ok refl refl
    ∙ test_asks c.args.laid.now c.args.statement.now c.args.body.now c.args.condition.now.form c.requires.is c.args.self.now c.args.n c.if-n-eq0.false c.spend.new.self c.in-Ok.ensures.did

pub returns-then-ends-clause-went : goal.returns-then-ends-clause-went
returns-then-ends-clause-went c =
    let p = c.args.laid.now in
    let m = c.args.self.now in
    let t = c.spend.new.self in
    let is = rw c.in-Ok-Some.field-0-is at c.in-Ok-Some.ensures in
    let E : Bool → Type 0 = λ ok. test (value p (at_most p m.active.fuel) (here_of m.active) c.args.condition.now.form) t ≡ Gives ok t in
    test_ends p c.args.statement.now c.args.body.now c.args.condition.now.form c.requires.is m c.args.n c.if-n-eq0.false t c.in-Ok.ensures.did (subst E c.if-ends.true is)

pub returns-in_ok-add-in-Ok-Some-2-clause-went : goal.returns-in_ok-add-in-Ok-Some-2-clause-went
returns-in_ok-add-in-Ok-Some-2-clause-went c =
    let p = c.args.laid.now in
    let m = c.args.self.now in
    let t = c.spend.new.self in
    let is = rw c.in-Ok-Some.field-0-is at c.in-Ok-Some.ensures in
    let E : Bool → Type 0 = λ ok. test (value p (at_most p m.active.fuel) (here_of m.active) c.args.condition.now.form) t ≡ Gives ok t in
    added_two p (record m { world = t }) c.add-in-Ok-Some.new.self c.add-in-Ok-Some-2.new.self _ _ (staged p (Rounds (c.args.n - 1)) c.args.statement.now) (performs_all p c.args.body.now) c.in_ok-add-in-Ok-Some.ensures.ok c.in_ok-add-in-Ok-Some-2.ensures.ok refl refl
    ∙ test_goes_on p c.args.statement.now c.args.body.now c.args.condition.now.form c.requires.is m c.args.n c.if-n-eq0.false t c.in-Ok.ensures.did (subst E c.if-ends.false is)
