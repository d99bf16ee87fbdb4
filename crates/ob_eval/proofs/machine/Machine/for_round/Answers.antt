use Rattle.std.proofs.Common.{◌-◌, Bool, w64, sym, ap, subst, refl, ◌∙◌}
use Rattle.std.proofs.lemmas.Int.{to_z-of_z}
use Rattle.std.specs.Prelude.{ℤ}
use Rattle.ob_types.specs.Statements.{at_limit}
use Rattle.eval_store.specs.Did.{Stopped}
use Rattle.eval_tasks.specs.declared.task.Stage.TheVariants.{Rounds, Behind}
use Rattle.eval_tasks.specs.Tasks.{staged, performs_all}
use Rattle.ob_eval.specs.Steps.{before}
use Rattle.ob_eval.specs.declared.machine.Machine.{Machine}
use Rattle.ob_eval.proofs.Steps.{added_two}
use Rattle.ob_eval.proofs.LoopSteps.{no_limit, for_no_round, for_no_turn, for_fetch_stops, for_no_number, for_over, for_on}
use Rattle.ob_eval.proofs.machine.Machine.for_round.Goals as goal

pub returns-in-Err-clause-went : goal.returns-in-Err-clause-went
returns-in-Err-clause-went c = no_limit c.args.laid.now c.args.statement.now c.args.step c.args.body.now c.requires.is c.args.n c.args.self.now c.take_limit.new.self c.in-Err.stop c.in-Err.ensures

pub returns-then-n-eq0-clause-went : goal.returns-then-n-eq0-clause-went
returns-then-n-eq0-clause-went c =
    ap (before c.args.laid.now (staged c.args.laid.now (Rounds c.args.n) c.args.statement.now)) c.in-Ok.ensures
    ∙ for_no_round c.args.laid.now c.args.statement.now c.args.step c.args.body.now c.requires.is c.take_limit.new.self c.in-Ok.kept c.args.n c.if-n-eq0.true

pub returns-in-Err-spend-clause-went : goal.returns-in-Err-spend-clause-went
returns-in-Err-spend-clause-went c =
    let p = c.args.laid.now in
    let S : Machine → Type 0 = λ m. Stopped (before p (staged p (Rounds c.args.n) c.args.statement.now) m) c.in-Err-spend.stop c.spend.new.self.out in
    subst S (sym c.in-Ok.ensures) (for_no_turn p c.args.statement.now c.args.step c.args.body.now c.requires.is c.take_limit.new.self c.in-Ok.kept c.args.n c.if-n-eq0.false c.in-Err-spend.stop c.spend.new.self.out c.in-Err-spend.ensures.did)

pub returns-in-Err-fetch-clause-went : goal.returns-in-Err-fetch-clause-went
returns-in-Err-fetch-clause-went c =
    let p = c.args.laid.now in
    let S : Machine → Type 0 = λ m. Stopped (before p (staged p (Rounds c.args.n) c.args.statement.now) m) c.in-Err-fetch.stop c.spend.new.self.out in
    subst S (sym c.in-Ok.ensures) (for_fetch_stops p c.args.statement.now c.args.step c.args.body.now c.requires.is c.take_limit.new.self c.in-Ok.kept c.args.n c.if-n-eq0.false c.spend.new.self c.in-Ok-spend.ensures.did c.in-Err-fetch.stop c.spend.new.self.out c.in-Err-fetch.ensures)

pub returns-in-None-clause-went : goal.returns-in-None-clause-went
returns-in-None-clause-went c =
    let p = c.args.laid.now in
    ap (before p (staged p (Rounds c.args.n) c.args.statement.now)) c.in-Ok.ensures
    ∙ for_no_number p c.args.statement.now c.args.step c.args.body.now c.requires.is c.take_limit.new.self c.in-Ok.kept c.args.n c.if-n-eq0.false c.spend.new.self c.in-Ok-spend.ensures.did c.in-Ok-fetch.c c.in-Ok-fetch.ensures (sym c.in-None.ensures)

pub returns-then-not-at_limit-clause-went : goal.returns-then-not-at_limit-clause-went
returns-then-not-at_limit-clause-went c =
    let p = c.args.laid.now in
    let L : ℤ → Bool = λ z. at_limit z c.in-Some.v c.in-Ok.kept.value in
    for_over p c.args.statement.now c.args.step c.args.body.now c.requires.is c.take_limit.new.self c.in-Ok.kept c.args.n c.if-n-eq0.false c.spend.new.self c.in-Ok-spend.ensures.did c.in-Ok-fetch.c c.in-Some.v c.in-Ok-fetch.ensures (sym c.in-Some.ensures) (sym (ap L (to_z-of_z w64 c.args.step c.ranges.step)) ∙ sym c.at_limit.ensures ∙ c.if-not-at_limit.true)
    ∙ ap (before p (staged p (Rounds c.args.n) c.args.statement.now)) (sym c.in-Ok.ensures)

pub returns-in_ok-add-in-Some-2-clause-went : goal.returns-in_ok-add-in-Some-2-clause-went
returns-in_ok-add-in-Some-2-clause-went c =
    let p = c.args.laid.now in
    let L : ℤ → Bool = λ z. at_limit z c.in-Some.v c.in-Ok.kept.value in
    let s = c.args.statement.now in
    let body = c.args.body.now in
    let n = c.args.n in
    added_two p c.keep_limit.new.self c.add.new.self c.add-in-Some.new.self _ _ (staged p (Behind (n - 1)) s) (performs_all p body) c.in_ok-add-in-Some.ensures.ok c.in_ok-add-in-Some-2.ensures.ok refl refl
    ∙ ap (before p (λ k. performs_all p body (staged p (Behind (n - 1)) s k))) c.in_ok-keep_limit-in-Some.ensures.ok
    ∙ for_on p s c.args.step body c.requires.is c.take_limit.new.self c.in-Ok.kept n c.if-n-eq0.false c.spend.new.self c.in-Ok-spend.ensures.did c.in-Ok-fetch.c c.in-Some.v c.in-Ok-fetch.ensures (sym c.in-Some.ensures) (sym (ap L (to_z-of_z w64 c.args.step c.ranges.step)) ∙ sym c.at_limit.ensures ∙ c.if-not-at_limit.false)
    ∙ ap (before p (staged p (Rounds n) s)) (sym c.in-Ok.ensures)
