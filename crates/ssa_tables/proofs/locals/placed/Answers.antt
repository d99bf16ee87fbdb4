use Rattle.std.proofs.Common.{◌≡◌, ◌<◌, ℕ, List, Bool, length, get_or, false, ap, ◌∙◌}
use Rattle.ssa_assigned.specs.Assigned.{has}
use Rattle.ssa_lowered.specs.Lowered.{lent_in_body}
use Rattle.ssa_tables.proofs.Variables.{marks_length, marks_at, locals_are}
use Rattle.ssa_tables.proofs.locals.placed.Goals as goal

pub place_all-requires : goal.place_all-requires
place_all-requires c = ap (λ (l : List Bool). length l) (c.as_slice-2.ensures.value ∙ c.in_ok-marks.ensures) ∙ marks_length c.as_slice.result.now (length c.args.declared.now)

pub returns : goal.returns
returns c = λ p f of_table.
    let is = c.as_slice-2.ensures.value ∙ c.in_ok-marks.ensures in
    let same = ap (λ (l : List Bool). length l) is ∙ marks_length c.as_slice.result.now (length c.args.declared.now) in
    let marks : (i : ℕ) → i < length c.args.declared.now → get_or c.as_slice-2.result.now i false ≡ lent_in_body c.args.procedure.now i = (λ i lt.
    ap (λ l. get_or l i false) is ∙ marks_at c.as_slice.result.now (length c.args.declared.now) i lt ∙ ap (λ l. has l i) c.as_slice.ensures ∙ c.in_ok-lent.ensures i) in
    locals_are c.args.types.now c.args.sizes.now c.requires.known p f c.args.procedure.now of_table _ c.args.declared.now c.as_slice-2.result.now c.requires.declared same marks c.requires.counted c.requires.few
    c.in_ok-placed.ensures.variables c.in_ok-placed.ensures.bytes c.structured_finish-structured.ensures
