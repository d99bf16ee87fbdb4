use Rattle.std.proofs.Common.{◌≡◌, true, sym, ap, ◌∙◌, subst}
use Rattle.ob_types.specs.Layout.{record_cells}
use Rattle.one_lowering.specs.Forms.{is_closed}
use Rattle.one_lowering.proofs.Sizes.{shape_cells}
use Rattle.one_lowering.proofs.Entries.{same_cells}
use Rattle.one_lowering.proofs.Parts.{types_are_fine}
use Rattle.one_lowering.proofs.laws.shapes_have_one_size.Goals as goal

pub returns : goal.returns
returns c = λ p well a b e closed.
    let fine = types_are_fine p well in
    same_cells p.types fine a closed ∙ ap (λ s. shape_cells (record_cells p.types) s) e ∙ sym (same_cells p.types fine b (subst (λ s. is_closed s ≡ true) e closed))
