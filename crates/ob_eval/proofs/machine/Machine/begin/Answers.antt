use Rattle.std.proofs.Common.{◌+◌, ℕ, refl, ap, ap₂, sym, subst, ◌∙◌}
use Rattle.run_laws.specs.Turns.{Ending}
use Rattle.ob_types.specs.Store.{Store, Trap}
use Rattle.ob_types.specs.declared.statements.ForLoop.{ForLoop}
use Rattle.ob_types.specs.declared.statements.Stmt.{Stmt, For, Repeat}
use Rattle.eval_tasks.specs.declared.task.Act.TheVariants.{AsPlace, PutFirst, Number}
use Rattle.eval_tasks.specs.declared.task.Branching.TheVariants.{Rounds}
use Rattle.eval_tasks.specs.declared.task.Stage.TheVariants.{Rounds as StageRounds}
use Rattle.eval_tasks.specs.declared.task.Typing.TheVariants.{OfPointer, OfParameter}
use Rattle.eval_tasks.specs.Tasks.{Next, performs, performs_all, branching, evaluates, locates, acts, staged, cases, typing, rest}
use Rattle.eval_tasks.specs.Weights.{of_expr, of_designator, of_statement, all_statements, all_branches, all_case_parts, all_type_parts}
use Rattle.eval_tasks.proofs.Weighed.{of_if, of_case, of_repeat, of_case_pointer, of_case_parameter}
use Rattle.eval_tasks.proofs.Statements.{p_call}
use Rattle.ob_eval.specs.Parts.{if_goes}
use Rattle.ob_eval.specs.Steps.{before, Went, Falls}
use Rattle.ob_eval.proofs.Cases.{if_is_performed}
use Rattle.ob_eval.proofs.Steps.{added_one, added_two, while_is, push_one, for_is, case_is}
use Rattle.ob_eval.proofs.Bodies.{repeat_is, case_pointer_is, case_parameter_is}
use Rattle.ob_eval.proofs.Falling.{falls_two, lighter_if, lighter_pair, lighter_body}
use Rattle.ob_eval.proofs.machine.Machine.begin.Goals as goal

pub returns-in_ok-add-in-While-clause-went : goal.returns-in_ok-add-in-While-clause-went
returns-in_ok-add-in-While-clause-went c =
    let p = c.args.laid.now in
    added_one p c.args.self.now c.add.new.self _ _ c.in_ok-add-in-While.ensures.ok (ap (λ l. branching p (Rounds c.args.self.now.active.fuel) l) c.deref-in-While.ensures.value)
    ∙ while_is p c.in-While.branches c.args.self.now
    ∙ ap (λ s. before p (performs p s) c.args.self.now) (sym c.in-While.is)

pub returns-in_ok-add-in-Repeat-2-clause-went : goal.returns-in_ok-add-in-Repeat-2-clause-went
returns-in_ok-add-in-Repeat-2-clause-went c =
    let p = c.args.laid.now in
    let m = c.args.self.now in
    let body = c.in-Repeat.body in
    let y = c.in-Repeat.field-1 in
    added_two p m c.add-in-Repeat.new.self c.add-in-Repeat-2.new.self _ _ (staged p (StageRounds m.active.fuel) (Repeat body y)) (performs_all p body.items) c.in_ok-add-in-Repeat.ensures.ok c.in_ok-add-in-Repeat-2.ensures.ok (ap (staged p (StageRounds m.active.fuel)) c.in-Repeat.is) (ap (λ l. performs_all p l) c.deref-in-Repeat.ensures.value)
    ∙ repeat_is p body y m
    ∙ ap (λ s. before p (performs p s) m) (sym c.in-Repeat.is)

pub returns-in_ok-add-in-Repeat-2-clause-falls : goal.returns-in_ok-add-in-Repeat-2-clause-falls
returns-in_ok-add-in-Repeat-2-clause-falls c =
    let w = of_statement c.args.statement.now in
    let b = all_statements c.in-Repeat.body.items in
    falls_two c.args.self.now c.add-in-Repeat.new.self c.add-in-Repeat-2.new.self _ _ w 1 b c.in_ok-add-in-Repeat.ensures.ok c.in_ok-add-in-Repeat-2.ensures.ok refl (ap all_statements c.deref-in-Repeat.ensures.value)
    (lighter_body w b (ap of_statement c.in-Repeat.is ∙ of_repeat c.in-Repeat.body c.in-Repeat.field-1))

pub returns-in_ok-add-in-For-7-clause-went : goal.returns-in_ok-add-in-For-7-clause-went
returns-in_ok-add-in-For-7-clause-went c =
    let p = c.args.laid.now in
    let m = c.args.self.now in
    let v = c.in-For.f.value in
    let n = m.active.fuel in
    let L : ForLoop → Next → Next = λ w. locates p w.variable in
    let Y : ForLoop → Next → Next = λ w. evaluates p w.first.form in
    let Z : ForLoop → Next → Next = λ w. evaluates p w.limit.form in
    let A : Next → Next = λ k. locates p v.variable k in
    let B : Next → Next = λ k. A (acts p AsPlace k) in
    let C : Next → Next = λ k. B (evaluates p v.first.form k) in
    let D : Next → Next = λ k. C (acts p PutFirst k) in
    let E : Next → Next = λ k. D (evaluates p v.limit.form k) in
    let F : Next → Next = λ k. E (acts p Number k) in
    push_one p (λ k. k) c.add-in-For-6.new.self c.add-in-For-7.new.self _ A c.in_ok-add-in-For-7.ensures.ok (ap L c.deref-it.ensures)
    ∙ push_one p A c.add-in-For-5.new.self c.add-in-For-6.new.self _ (acts p AsPlace) c.in_ok-add-in-For-6.ensures.ok refl
    ∙ push_one p B c.add-in-For-4.new.self c.add-in-For-5.new.self _ (evaluates p v.first.form) c.in_ok-add-in-For-5.ensures.ok (ap Y c.deref-it.ensures)
    ∙ push_one p C c.add-in-For-3.new.self c.add-in-For-4.new.self _ (acts p PutFirst) c.in_ok-add-in-For-4.ensures.ok refl
    ∙ push_one p D c.add-in-For-2.new.self c.add-in-For-3.new.self _ (evaluates p v.limit.form) c.in_ok-add-in-For-3.ensures.ok (ap Z c.deref-it.ensures)
    ∙ push_one p E c.add-in-For.new.self c.add-in-For-2.new.self _ (acts p Number) c.in_ok-add-in-For-2.ensures.ok refl
    ∙ push_one p F m c.add-in-For.new.self _ (staged p (StageRounds n) (For c.in-For.f)) c.in_ok-add-in-For.ensures.ok (ap (staged p (StageRounds n)) c.in-For.is)
    ∙ for_is p m (For c.in-For.f)
    ∙ ap (λ s. before p (performs p s) m) (sym c.in-For.is)

pub returns-in_ok-add-in-Case-2-clause-went : goal.returns-in_ok-add-in-Case-2-clause-went
returns-in_ok-add-in-Case-2-clause-went c =
    let p = c.args.laid.now in
    let m = c.args.self.now in
    let x = c.in-Case.x in
    added_two p m c.add-in-Case.new.self c.add-in-Case-2.new.self _ _ (cases p c.in-Case.parts.items) (evaluates p x.form) c.in_ok-add-in-Case.ensures.ok c.in_ok-add-in-Case-2.ensures.ok (ap (λ l. cases p l) c.deref-in-Case.ensures.value) refl
    ∙ case_is p x c.in-Case.parts m
    ∙ ap (λ s. before p (performs p s) m) (sym c.in-Case.is)

pub returns-in_ok-add-in-Case-2-clause-falls : goal.returns-in_ok-add-in-Case-2-clause-falls
returns-in_ok-add-in-Case-2-clause-falls c =
    let w = of_statement c.args.statement.now in
    let a = of_expr c.in-Case.x.form in
    let b = all_case_parts c.in-Case.parts.items in
    falls_two c.args.self.now c.add-in-Case.new.self c.add-in-Case-2.new.self _ _ w b a c.in_ok-add-in-Case.ensures.ok c.in_ok-add-in-Case-2.ensures.ok (ap all_case_parts c.deref-in-Case.ensures.value) refl
    (lighter_pair w a b (ap of_statement c.in-Case.is ∙ of_case c.in-Case.x c.in-Case.parts))

pub returns-in_ok-add-in-CasePointer-2-clause-went : goal.returns-in_ok-add-in-CasePointer-2-clause-went
returns-in_ok-add-in-CasePointer-2-clause-went c =
    let p = c.args.laid.now in
    let m = c.args.self.now in
    let x = c.in-CasePointer.x in
    added_two p m c.add-in-CasePointer.new.self c.add-in-CasePointer-2.new.self _ _ (typing p OfPointer c.in-CasePointer.parts.items) (evaluates p x.form) c.in_ok-add-in-CasePointer.ensures.ok c.in_ok-add-in-CasePointer-2.ensures.ok (ap (λ l. typing p OfPointer l) c.deref-in-CasePointer.ensures.value) refl
    ∙ case_pointer_is p x c.in-CasePointer.parts m
    ∙ ap (λ s. before p (performs p s) m) (sym c.in-CasePointer.is)

pub returns-in_ok-add-in-CasePointer-2-clause-falls : goal.returns-in_ok-add-in-CasePointer-2-clause-falls
returns-in_ok-add-in-CasePointer-2-clause-falls c =
    let w = of_statement c.args.statement.now in
    let a = of_expr c.in-CasePointer.x.form in
    let b = all_type_parts c.in-CasePointer.parts.items in
    falls_two c.args.self.now c.add-in-CasePointer.new.self c.add-in-CasePointer-2.new.self _ _ w (1 + b) a c.in_ok-add-in-CasePointer.ensures.ok c.in_ok-add-in-CasePointer-2.ensures.ok (ap (λ l. 1 + all_type_parts l) c.deref-in-CasePointer.ensures.value) refl
    (lighter_if w a b (ap of_statement c.in-CasePointer.is ∙ of_case_pointer c.in-CasePointer.x c.in-CasePointer.parts))

pub returns-in_ok-add-in-CaseParameter-2-clause-went : goal.returns-in_ok-add-in-CaseParameter-2-clause-went
returns-in_ok-add-in-CaseParameter-2-clause-went c =
    let p = c.args.laid.now in
    let m = c.args.self.now in
    let d = c.in-CaseParameter.d in
    added_two p m c.add-in-CaseParameter.new.self c.add-in-CaseParameter-2.new.self _ _ (typing p OfParameter c.in-CaseParameter.parts.items) (locates p d) c.in_ok-add-in-CaseParameter.ensures.ok c.in_ok-add-in-CaseParameter-2.ensures.ok (ap (λ l. typing p OfParameter l) c.deref-in-CaseParameter.ensures.value) refl
    ∙ case_parameter_is p d c.in-CaseParameter.parts m
    ∙ ap (λ s. before p (performs p s) m) (sym c.in-CaseParameter.is)

pub returns-in_ok-add-in-CaseParameter-2-clause-falls : goal.returns-in_ok-add-in-CaseParameter-2-clause-falls
returns-in_ok-add-in-CaseParameter-2-clause-falls c =
    let w = of_statement c.args.statement.now in
    let a = of_designator c.in-CaseParameter.d in
    let b = all_type_parts c.in-CaseParameter.parts.items in
    falls_two c.args.self.now c.add-in-CaseParameter.new.self c.add-in-CaseParameter-2.new.self _ _ w (1 + b) a c.in_ok-add-in-CaseParameter.ensures.ok c.in_ok-add-in-CaseParameter-2.ensures.ok (ap (λ l. 1 + all_type_parts l) c.deref-in-CaseParameter.ensures.value) refl
    (lighter_if w a b (ap of_statement c.in-CaseParameter.is ∙ of_case_parameter c.in-CaseParameter.d c.in-CaseParameter.parts))

pub returns-in-Call-clause-went : goal.returns-in-Call-clause-went
returns-in-Call-clause-went c =
    let p = c.args.laid.now in
    let m = c.args.self.now in
    let P : Stmt → Type 0 = λ s. Went p (before p (performs p s) m) c.reach.result c.reach.new.self in
    let Z : Ending Store Trap (Unit {0}) → Type 0 = λ e. Went p e c.reach.result c.reach.new.self in
    subst P (sym c.in-Call.is) (subst Z (sym (p_call p (rest p m.tasks) m.active m.values m.world c.in-Call.call)) c.reach.ensures.went)

pub returns-in-If-clause-went : goal.returns-in-If-clause-went
returns-in-If-clause-went c =
    let p = c.args.laid.now in
    let m = c.args.self.now in
    let bs = c.in-If.branches in
    let ss = c.in-If.other in
    let P : Stmt → Type 0 = λ s. Went p (before p (performs p s) m) c.begin_if.result c.begin_if.new.self in
    let Z : Ending Store Trap (Unit {0}) → Type 0 = λ e. Went p e c.begin_if.result c.begin_if.new.self in
    subst P (sym c.in-If.is) (subst Z (ap (λ l. before p (if_goes p l c.deref-in-If.result.now) m) c.deref.ensures.value ∙ ap (λ l. before p (if_goes p bs.items l) m) c.deref-in-If.ensures.value ∙ if_is_performed p m bs ss) c.begin_if.ensures.went)

pub returns-in-If-clause-falls : goal.returns-in-If-clause-falls
returns-in-If-clause-falls c =
    let m = c.args.self.now in
    let N : ℕ → Type 0 = λ n. Falls n m c.begin_if.result c.begin_if.new.self in
    let W : ℕ → ℕ → ℕ = λ a b. 2 + (a + b) in
    subst N (ap₂ W (ap all_branches c.deref.ensures.value) (ap all_statements c.deref-in-If.ensures.value) ∙ sym (ap of_statement c.in-If.is ∙ of_if c.in-If.branches c.in-If.other)) c.begin_if.ensures.falls
