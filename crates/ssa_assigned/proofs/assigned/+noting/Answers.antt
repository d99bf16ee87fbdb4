use Rattle.std.proofs.Common.{◌≡◌, ◌∙◌, ◌||◌, ap, ap₂, sym, refl}
use Rattle.ob_types.specs.declared.statements.ForLoop.{ForLoop}
use Rattle.ssa_lowered.specs.Variables.{assigned, itself}
use Rattle.ssa_assigned.specs.Assigned.{has, assigned_list, assigned_parts, assigned_cases, assigned_types}
use Rattle.ssa_assigned.proofs.Noting.{noted_more, noted_end, or_assoc}
use Rattle.ssa_assigned.proofs.Rows.{assigned_if, assigned_while, assigned_repeat, assigned_for, assigned_case, assigned_pointer, assigned_parameter}
use Rattle.ssa_assigned.proofs.assigned.+noting.Goals as goal

pub note_all-loop-s-init : goal.note_all-loop-s-init
note_all-loop-s-init t c = λ x. refl

pub note_all-loop-s-preserved : goal.note_all-loop-s-preserved
note_all-loop-s-preserved t c = λ x. noted_more (λ s. assigned s x) c.args.list.now c.loop-s.s-index c.s-item.result _ _ _ c.loop-s-test.true c.s-item.is (c.in_ok-note.ensures x) (c.loop-s.invariant x)

pub note_all-returns : goal.note_all-returns
note_all-returns t c = λ x. noted_end (λ s. assigned s x) c.args.list.now c.loop-s.s-index _ _ c.loop-s-test.false (c.loop-s.invariant x)

pub note_parts-loop-part-init : goal.note_parts-loop-part-init
note_parts-loop-part-init t c = λ x. refl

pub note_parts-loop-part-preserved : goal.note_parts-loop-part-preserved
note_parts-loop-part-preserved t c = λ x.
    noted_more (λ part. assigned_list part.body.items x) c.args.parts.now c.loop-part.part-index c.part-item.result _ _ _ c.loop-part-test.true c.part-item.is
    (c.in_ok-note_all.ensures x ∙ ap (λ l. has c.loop-part.found.items x || assigned_list l x) c.as_slice.ensures.value) (c.loop-part.invariant x)

pub note_parts-returns : goal.note_parts-returns
note_parts-returns t c = λ x. noted_end (λ part. assigned_list part.body.items x) c.args.parts.now c.loop-part.part-index _ _ c.loop-part-test.false (c.loop-part.invariant x)

pub note_cases-loop-part-init : goal.note_cases-loop-part-init
note_cases-loop-part-init t c = λ x. refl

pub note_cases-loop-part-preserved : goal.note_cases-loop-part-preserved
note_cases-loop-part-preserved t c = λ x.
    noted_more (λ part. assigned_list part.body.items x) c.args.parts.now c.loop-part.part-index c.part-item.result _ _ _ c.loop-part-test.true c.part-item.is
    (c.in_ok-note_all.ensures x ∙ ap (λ l. has c.loop-part.found.items x || assigned_list l x) c.as_slice.ensures.value) (c.loop-part.invariant x)

pub note_cases-returns : goal.note_cases-returns
note_cases-returns t c = λ x. noted_end (λ part. assigned_list part.body.items x) c.args.parts.now c.loop-part.part-index _ _ c.loop-part-test.false (c.loop-part.invariant x)

pub note_types-loop-part-init : goal.note_types-loop-part-init
note_types-loop-part-init t c = λ x. refl

pub note_types-loop-part-preserved : goal.note_types-loop-part-preserved
note_types-loop-part-preserved t c = λ x.
    noted_more (λ part. assigned_list part.body.items x) c.args.parts.now c.loop-part.part-index c.part-item.result _ _ _ c.loop-part-test.true c.part-item.is
    (c.in_ok-note_all.ensures x ∙ ap (λ l. has c.loop-part.found.items x || assigned_list l x) c.as_slice.ensures.value) (c.loop-part.invariant x)

pub note_types-returns : goal.note_types-returns
note_types-returns t c = λ x. noted_end (λ part. assigned_list part.body.items x) c.args.parts.now c.loop-part.part-index _ _ c.loop-part-test.false (c.loop-part.invariant x)

pub note-returns-in_ok-note_all-in-If : goal.note-returns-in_ok-note_all-in-If
note-returns-in_ok-note_all-in-If t c = λ x.
    let whole : assigned c.args.s.now x ≡ assigned_parts c.in-If.parts.items x || assigned_list c.in-If.other.items x = ap (λ s. assigned s x) c.in-If.is ∙ assigned_if c.in-If.parts c.in-If.other x in
    c.in_ok-note_all-in-If.ensures x
    ∙ ap₂ (λ a b. a || b) (c.in_ok-note_parts-in-If.ensures x ∙ ap (λ l. has c.args.found.now.items x || assigned_parts l x) c.deref.ensures.value) (ap (λ l. assigned_list l x) c.deref-in-If.ensures.value)
    ∙ or_assoc (has c.args.found.now.items x) (assigned_parts c.in-If.parts.items x) (assigned_list c.in-If.other.items x) ∙ ap (λ b. has c.args.found.now.items x || b) (sym whole)

pub note-returns-in_ok-note_parts-in-While : goal.note-returns-in_ok-note_parts-in-While
note-returns-in_ok-note_parts-in-While t c = λ x.
    c.in_ok-note_parts-in-While.ensures x ∙ ap (λ l. has c.args.found.now.items x || assigned_parts l x) c.deref-in-While.ensures.value
    ∙ ap (λ b. has c.args.found.now.items x || b) (sym (ap (λ s. assigned s x) c.in-While.is ∙ assigned_while c.in-While.parts x))

pub note-returns-in_ok-note_all-in-Repeat : goal.note-returns-in_ok-note_all-in-Repeat
note-returns-in_ok-note_all-in-Repeat t c = λ x.
    c.in_ok-note_all-in-Repeat.ensures x ∙ ap (λ l. has c.args.found.now.items x || assigned_list l x) c.deref-in-Repeat.ensures.value
    ∙ ap (λ b. has c.args.found.now.items x || b) (sym (ap (λ s. assigned s x) c.in-Repeat.is ∙ assigned_repeat c.in-Repeat.body c.in-Repeat.field-1 x))

pub note-returns-in_ok-note_all-in-For : goal.note-returns-in_ok-note_all-in-For
note-returns-in_ok-note_all-in-For t c = λ x.
    let f = c.deref-for_loop.result.now in
    let whole : assigned c.args.s.now x ≡ itself f.variable x || assigned_list f.body.items x =
    ap (λ s. assigned s x) c.in-For.is ∙ assigned_for c.in-For.inner x ∙ ap (λ (l : ForLoop). itself l.variable x || assigned_list l.body.items x) (sym c.deref-for_loop.ensures) in
    c.in_ok-note_all-in-For.ensures x
    ∙ ap₂ (λ a b. a || b) (c.in_ok-note_whole-in-For.ensures x) (ap (λ l. assigned_list l x) c.as_slice.ensures.value)
    ∙ or_assoc (has c.args.found.now.items x) (itself f.variable x) (assigned_list f.body.items x) ∙ ap (λ b. has c.args.found.now.items x || b) (sym whole)

pub note-returns-in_ok-note_cases-in-Case : goal.note-returns-in_ok-note_cases-in-Case
note-returns-in_ok-note_cases-in-Case t c = λ x.
    c.in_ok-note_cases-in-Case.ensures x ∙ ap (λ l. has c.args.found.now.items x || assigned_cases l x) c.deref-in-Case.ensures.value
    ∙ ap (λ b. has c.args.found.now.items x || b) (sym (ap (λ s. assigned s x) c.in-Case.is ∙ assigned_case c.in-Case.field-0 c.in-Case.parts x))

pub note-returns-in_ok-note_types-in-CasePointer : goal.note-returns-in_ok-note_types-in-CasePointer
note-returns-in_ok-note_types-in-CasePointer t c = λ x.
    c.in_ok-note_types-in-CasePointer.ensures x ∙ ap (λ l. has c.args.found.now.items x || assigned_types l x) c.deref-in-CasePointer.ensures.value
    ∙ ap (λ b. has c.args.found.now.items x || b) (sym (ap (λ s. assigned s x) c.in-CasePointer.is ∙ assigned_pointer c.in-CasePointer.field-0 c.in-CasePointer.parts x))

pub note-returns-in_ok-note_types-in-CaseParameter : goal.note-returns-in_ok-note_types-in-CaseParameter
note-returns-in_ok-note_types-in-CaseParameter t c = λ x.
    c.in_ok-note_types-in-CaseParameter.ensures x ∙ ap (λ l. has c.args.found.now.items x || assigned_types l x) c.deref-in-CaseParameter.ensures.value
    ∙ ap (λ b. has c.args.found.now.items x || b) (sym (ap (λ s. assigned s x) c.in-CaseParameter.is ∙ assigned_parameter c.in-CaseParameter.field-0 c.in-CaseParameter.parts x))
