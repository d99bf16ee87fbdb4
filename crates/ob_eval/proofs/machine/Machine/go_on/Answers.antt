use Rattle.std.proofs.lemmas.Int.{to_z-of_z}
use Rattle.std.specs.Prelude.{ℤ}
use Rattle.std.proofs.Common.{rules, to_z, of_z, w64, ◌≡◌, ◌+◌, List, ℕ, sym, subst}
use Rattle.ob_types.specs.declared.statements.ForLoop.{ForLoop}
use Rattle.ob_types.specs.declared.statements.Stmt.{Stmt, Repeat, For}
use Rattle.eval_tasks.specs.declared.task.Stage.{Stage}
use Rattle.eval_tasks.specs.declared.task.Stage.TheVariants.{Behind}
use Rattle.eval_tasks.specs.Tasks.{staged}
use Rattle.eval_tasks.specs.Weights.{of_staged, all_statements}
use Rattle.ob_eval.specs.Parts.{IsFor, IsRepeat}
use Rattle.ob_eval.specs.Steps.{before, Went, Falls}
use Rattle.ob_eval.proofs.Bodies.{is_for, is_repeat}
use Rattle.ob_eval.proofs.machine.Machine.go_on.Goals as goal

pub returns-in-Begin-clause-went : goal.returns-in-Begin-clause-went
returns-in-Begin-clause-went c =
    let p = c.args.laid.now in
    let P : Stage → Type 0 = λ s. Went p (before p (staged p s c.args.statement.now) c.args.self.now) c.perform.result c.perform.new.self in
    subst P (sym c.in-Begin.is) c.perform.ensures.went

pub returns-in-Begin-clause-falls : goal.returns-in-Begin-clause-falls
returns-in-Begin-clause-falls c =
    let P : Stage → Type 0 = λ s. Falls (of_staged s c.args.statement.now) c.args.self.now c.perform.result c.perform.new.self in
    subst P (sym c.in-Begin.is) c.perform.ensures.falls

-- REPEAT

pub repeat_round-requires : goal.repeat_round-requires
repeat_round-requires c =
    let p = c.args.laid.now in
    let y = c.in-Repeat.condition in
    let S : Stmt → Type 0 = λ s. IsRepeat p s c.deref.result.now y.form in
    let L : List Stmt → Type 0 = λ l. IsRepeat p (Repeat c.in-Repeat.body y) l y.form in
    record { is = subst S (sym c.in-Repeat.is) (subst L (sym c.deref.ensures.value) (is_repeat p c.in-Repeat.body y)) }

pub repeat_again-requires : goal.repeat_again-requires
repeat_again-requires c =
    let p = c.args.laid.now in
    let y = c.in-Repeat-statement.field-1 in
    let l = c.deref-in-Repeat-statement.result.now in
    let S : Stmt → Type 0 = λ s. IsRepeat p s l y.form in
    let L : List Stmt → Type 0 = λ l. IsRepeat p (Repeat c.in-Repeat-statement.body y) l y.form in
    record { is = (y.form, subst S (sym c.in-Repeat-statement.is) (subst L (sym c.deref-in-Repeat-statement.ensures.value) (is_repeat p c.in-Repeat-statement.body y))) }

pub returns-in-Repeat-statement-clause-falls : goal.returns-in-Repeat-statement-clause-falls
returns-in-Repeat-statement-clause-falls c =
    let p = c.args.laid.now in
    let y = c.in-Repeat-statement.field-1 in
    let b = c.in-Repeat-statement.body in
    let r = c.repeat_again.result in
    let new = c.repeat_again.new.self in
    let P : Stage → Type 0 = λ s. Falls (of_staged s c.args.statement.now) c.args.self.now r new in
    let S : Stmt → Type 0 = λ s. Falls (of_staged (Behind c.in-Behind.n) s) c.args.self.now r new in
    let N : ℕ → Type 0 = λ n. Falls n c.args.self.now r new in
    let L : List Stmt → Type 0 = λ l. Falls (2 + all_statements l) c.args.self.now r new in
    subst P (sym c.in-Behind.is) (subst S (sym c.in-Repeat-statement.is) (subst N (sym ((is_repeat p b y).weighs c.in-Behind.n)) (subst L c.deref-in-Repeat-statement.ensures.value c.repeat_again.ensures.falls)))

-- FOR

pub for_round-requires : goal.for_round-requires
for_round-requires c =
    let p = c.args.laid.now in
    let f = c.in-For.f in
    let w = c.deref-it.result.now in
    let same : to_z w64 (of_z w64 w.step) ≡ w.step = search (rules, to_z-of_z) in
    let Z : ℤ → Type 0 = λ z. IsFor p c.args.statement.now z c.as_slice.result.now in
    let S : Stmt → Type 0 = λ s. IsFor p s w.step c.as_slice.result.now in
    let L : List Stmt → Type 0 = λ l. IsFor p (For f) w.step l in
    let W : ForLoop → Type 0 = λ z. IsFor p (For f) z.step z.body.items in
    record { is = subst Z (sym same) (subst S (sym c.in-For.is) (subst L (sym c.as_slice.ensures.value) (subst W (sym c.deref-it.ensures) (is_for p f)))) }

pub for_step-requires : goal.for_step-requires
for_step-requires c =
    let p = c.args.laid.now in
    let f = c.in-For-statement.f in
    let w = c.deref-it-in-For-statement.result.now in
    let same : to_z w64 (of_z w64 w.step) ≡ w.step = search (rules, to_z-of_z) in
    let Z : ℤ → Type 0 = λ z. IsFor p c.args.statement.now z w.body.items in
    let S : Stmt → Type 0 = λ s. IsFor p s w.step w.body.items in
    let W : ForLoop → Type 0 = λ z. IsFor p (For f) z.step z.body.items in
    record { is = (w.body.items, subst Z (sym same) (subst S (sym c.in-For-statement.is) (subst W (sym c.deref-it-in-For-statement.ensures) (is_for p f)))) }

pub returns-in-Repeat-clause-went : goal.returns-in-Repeat-clause-went
returns-in-Repeat-clause-went c =
    let p = c.args.laid.now in
    let P : Stage → Type 0 = λ s. Went p (before p (staged p s c.args.statement.now) c.args.self.now) c.repeat_round.result c.repeat_round.new.self in
    subst P (sym c.in-Rounds.is) c.repeat_round.ensures.went

pub returns-in-For-clause-went : goal.returns-in-For-clause-went
returns-in-For-clause-went c =
    let p = c.args.laid.now in
    let P : Stage → Type 0 = λ s. Went p (before p (staged p s c.args.statement.now) c.args.self.now) c.for_round.result c.for_round.new.self in
    subst P (sym c.in-Rounds.is) c.for_round.ensures.went

pub returns-in-Repeat-statement-clause-went : goal.returns-in-Repeat-statement-clause-went
returns-in-Repeat-statement-clause-went c =
    let p = c.args.laid.now in
    let P : Stage → Type 0 = λ s. Went p (before p (staged p s c.args.statement.now) c.args.self.now) c.repeat_again.result c.repeat_again.new.self in
    subst P (sym c.in-Behind.is) c.repeat_again.ensures.went

pub returns-in-For-statement-clause-went : goal.returns-in-For-statement-clause-went
returns-in-For-statement-clause-went c =
    let p = c.args.laid.now in
    let P : Stage → Type 0 = λ s. Went p (before p (staged p s c.args.statement.now) c.args.self.now) c.for_step.result c.for_step.new.self in
    subst P (sym c.in-Behind.is) c.for_step.ensures.went
