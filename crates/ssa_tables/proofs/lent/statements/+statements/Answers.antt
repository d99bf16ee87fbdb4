use Rattle.std.proofs.Common.{◌≡◌, ◌∙◌, ◌||◌, ap, ap₂, sym}
use Rattle.ob_types.specs.declared.statements.ForLoop.{ForLoop}
use Rattle.ssa_lowered.specs.Variables.{lent, lent_at, lent_whole, lent_by}
use Rattle.ssa_assigned.specs.Assigned.{has}
use Rattle.ssa_assigned.proofs.Noting.{or_assoc}
use Rattle.ssa_tables.specs.lent.Lent.{lent_by_statements, lent_by_parts, lent_by_cases, lent_by_types}
use Rattle.ssa_tables.proofs.lent.Rows.{lent_if, lent_while, lent_repeat, lent_for, lent_case, lent_pointer, lent_parameter}
use Rattle.ssa_tables.proofs.lent.statements.+statements.Goals as goal

pub lend_statement-returns-in_ok-lend_all-in-If : goal.lend_statement-returns-in_ok-lend_all-in-If
lend_statement-returns-in_ok-lend_all-in-If t c = λ x.
    let whole : lent_by c.args.s.now x ≡ lent_by_parts c.in-If.parts.items x || lent_by_statements c.in-If.other.items x = ap (λ s. lent_by s x) c.in-If.is ∙ lent_if c.in-If.parts c.in-If.other x in
    c.in_ok-lend_all-in-If.ensures x
    ∙ ap₂ (λ a b. a || b) (c.in_ok-lend_parts-in-If.ensures x ∙ ap (λ l. has c.args.found.now.items x || lent_by_parts l x) c.deref.ensures.value) (ap (λ l. lent_by_statements l x) c.deref-in-If.ensures.value)
    ∙ or_assoc (has c.args.found.now.items x) (lent_by_parts c.in-If.parts.items x) (lent_by_statements c.in-If.other.items x) ∙ ap (λ b. has c.args.found.now.items x || b) (sym whole)

pub lend_statement-returns-in_ok-lend_parts-in-While : goal.lend_statement-returns-in_ok-lend_parts-in-While
lend_statement-returns-in_ok-lend_parts-in-While t c = λ x.
    c.in_ok-lend_parts-in-While.ensures x ∙ ap (λ l. has c.args.found.now.items x || lent_by_parts l x) c.deref-in-While.ensures.value
    ∙ ap (λ b. has c.args.found.now.items x || b) (sym (ap (λ s. lent_by s x) c.in-While.is ∙ lent_while c.in-While.parts x))

pub lend_statement-returns-in_ok-lend-in-Repeat : goal.lend_statement-returns-in_ok-lend-in-Repeat
lend_statement-returns-in_ok-lend-in-Repeat t c = λ z.
    let whole : lent_by c.args.s.now z ≡ lent_by_statements c.in-Repeat.body.items z || lent c.in-Repeat.x.form z = ap (λ s. lent_by s z) c.in-Repeat.is ∙ lent_repeat c.in-Repeat.body c.in-Repeat.x z in
    c.in_ok-lend-in-Repeat.ensures z
    ∙ ap (λ b. b || lent c.in-Repeat.x.form z) (c.in_ok-lend_all-in-Repeat.ensures z ∙ ap (λ l. has c.args.found.now.items z || lent_by_statements l z) c.deref-in-Repeat.ensures.value)
    ∙ or_assoc (has c.args.found.now.items z) (lent_by_statements c.in-Repeat.body.items z) (lent c.in-Repeat.x.form z) ∙ ap (λ b. has c.args.found.now.items z || b) (sym whole)

pub lend_statement-returns-in_ok-lend_all-in-For : goal.lend_statement-returns-in_ok-lend_all-in-For
lend_statement-returns-in_ok-lend_all-in-For t c = λ z.
    let turns = c.deref-for_loop.result.now in
    let d = lent_at turns.variable z in
    let e = lent turns.first.form z in
    let f = lent turns.limit.form z in
    let body = lent_by_statements turns.body.items z in
    let old = has c.args.found.now.items z in
    let whole : lent_by c.args.s.now z ≡ d || (e || (f || body)) =
    ap (λ s. lent_by s z) c.in-For.is ∙ lent_for c.in-For.inner z
    ∙ ap (λ (l : ForLoop). lent_at l.variable z || (lent l.first.form z || (lent l.limit.form z || lent_by_statements l.body.items z))) (sym c.deref-for_loop.ensures) in
    c.in_ok-lend_all-in-For.ensures z
    ∙ ap₂ (λ a b. a || b) (c.in_ok-lend-in-For-2.ensures z ∙ ap (λ b. b || f) (c.in_ok-lend-in-For.ensures z ∙ ap (λ b. b || e) (c.in_ok-lend_read-in-For.ensures z))) (ap (λ l. lent_by_statements l z) c.as_slice.ensures.value)
    ∙ or_assoc ((old || d) || e) f body ∙ or_assoc (old || d) e (f || body) ∙ or_assoc old d (e || (f || body)) ∙ ap (λ b. old || b) (sym whole)

pub lend_statement-returns-in_ok-lend_cases-in-Case : goal.lend_statement-returns-in_ok-lend_cases-in-Case
lend_statement-returns-in_ok-lend_cases-in-Case t c = λ z.
    let whole : lent_by c.args.s.now z ≡ lent c.in-Case.x.form z || lent_by_cases c.in-Case.parts.items z = ap (λ s. lent_by s z) c.in-Case.is ∙ lent_case c.in-Case.x c.in-Case.parts z in
    c.in_ok-lend_cases-in-Case.ensures z
    ∙ ap₂ (λ a b. a || b) (c.in_ok-lend-in-Case.ensures z) (ap (λ l. lent_by_cases l z) c.deref-in-Case.ensures.value)
    ∙ or_assoc (has c.args.found.now.items z) (lent c.in-Case.x.form z) (lent_by_cases c.in-Case.parts.items z) ∙ ap (λ b. has c.args.found.now.items z || b) (sym whole)

pub lend_statement-returns-in_ok-lend_types-in-CasePointer : goal.lend_statement-returns-in_ok-lend_types-in-CasePointer
lend_statement-returns-in_ok-lend_types-in-CasePointer t c = λ z.
    let whole : lent_by c.args.s.now z ≡ lent c.in-CasePointer.x.form z || lent_by_types c.in-CasePointer.parts.items z = ap (λ s. lent_by s z) c.in-CasePointer.is ∙ lent_pointer c.in-CasePointer.x c.in-CasePointer.parts z in
    c.in_ok-lend_types-in-CasePointer.ensures z
    ∙ ap₂ (λ a b. a || b) (c.in_ok-lend-in-CasePointer.ensures z) (ap (λ l. lent_by_types l z) c.deref-in-CasePointer.ensures.value)
    ∙ or_assoc (has c.args.found.now.items z) (lent c.in-CasePointer.x.form z) (lent_by_types c.in-CasePointer.parts.items z) ∙ ap (λ b. has c.args.found.now.items z || b) (sym whole)

pub lend_statement-returns-in_ok-lend_types-in-CaseParameter : goal.lend_statement-returns-in_ok-lend_types-in-CaseParameter
lend_statement-returns-in_ok-lend_types-in-CaseParameter t c = λ z.
    let whole : lent_by c.args.s.now z ≡ lent_whole c.in-CaseParameter.d z || lent_by_types c.in-CaseParameter.parts.items z = ap (λ s. lent_by s z) c.in-CaseParameter.is ∙ lent_parameter c.in-CaseParameter.d c.in-CaseParameter.parts z in
    c.in_ok-lend_types-in-CaseParameter.ensures z
    ∙ ap₂ (λ a b. a || b) (c.in_ok-lend_whole-in-CaseParameter.ensures z) (ap (λ l. lent_by_types l z) c.deref-in-CaseParameter.ensures.value)
    ∙ or_assoc (has c.args.found.now.items z) (lent_whole c.in-CaseParameter.d z) (lent_by_types c.in-CaseParameter.parts.items z) ∙ ap (λ b. has c.args.found.now.items z || b) (sym whole)
