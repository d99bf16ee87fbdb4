use Rattle.std.proofs.Common.{◌≡◌, ◌∙◌, ◌||◌, ap, sym}
use Rattle.ob_types.specs.declared.tree.Access.{Access}
use Rattle.ssa_lowered.specs.Variables.{origin, itself}
use Rattle.ssa_assigned.specs.Assigned.{has, unselected_by}
use Rattle.ssa_assigned.proofs.Rows.{unselected_part}
use Rattle.ssa_assigned.proofs.assigned.note_whole.Goals as goal

pub returns-in_ok-note_unselected-in-Part : goal.returns-in_ok-note_unselected-in-Part
returns-in_ok-note_unselected-in-Part c = λ x.
    let a = c.deref-access.result.now in
    let whole : itself c.args.d.now x ≡ unselected_by (origin a.base) a.selectors.items x =
    ap (λ d. itself d x) c.in-Part.is ∙ unselected_part c.in-Part.inner x ∙ ap (λ (k : Access). unselected_by (origin k.base) k.selectors.items x) (sym c.deref-access.ensures) in
    c.in_ok-note_unselected-in-Part.ensures x
    ∙ ap (λ l. has c.args.found.now.items x || unselected_by (origin a.base) l x) c.as_slice.ensures.value
    ∙ ap (λ b. has c.args.found.now.items x || b) (sym whole)
