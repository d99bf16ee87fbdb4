use Rattle.std.proofs.Common.{◌≡◌, ap, sym, ◌∙◌, get_or, not}
use Rattle.ob_types.specs.Layout.{kind_of}
use Rattle.ob_types.specs.Forms.{form_or_zero, scalar_form}
use Rattle.ob_types.specs.Trees.{fits_byte, scalar_bytes, tree_extent}
use Rattle.ob_types.specs.declared.types.TypeKind.TheVariants.{Int, Nothing}
use Rattle.ob_types.specs.declared.types.TypeKind.TheVariants.{Record as RecordOf}
use Rattle.ob_types.proofs.DataTrees.{record_data_tree, other_data_tree}
use Rattle.ssa_tables.proofs.Levels.{default_any}
use Rattle.ssa_tables.proofs.sizes.own_extent.Goals as goal

pub returns-in-Record : goal.returns-in-Record
returns-in-Record c =
    let t = c.args.types.now in
    let is : kind_of t c.args.at ≡ RecordOf c.in-Record.r = default_any t.kinds c.args.at Nothing Int c.requires.there ∙ sym (ap (λ ks. get_or ks c.args.at Int) c.kinds.ensures) ∙ c.in-Record.is in
    c.record_extent.ensures ∙ sym (ap tree_extent (record_data_tree t c.requires.sizes.fine c.args.at c.in-Record.r is))

pub returns-in_default : goal.returns-in_default
returns-in_default c =
    let t = c.args.types.now in
    let is : kind_of t c.args.at ≡ get_or c.kinds.result.now c.args.at Int = default_any t.kinds c.args.at Nothing Int c.requires.there ∙ sym (ap (λ ks. get_or ks c.args.at Int) c.kinds.ensures) in
    let small : c.takes_a_byte.result ≡ fits_byte (form_or_zero (scalar_form (kind_of t c.args.at))) = c.takes_a_byte.ensures t ∙ ap (λ kind. fits_byte (form_or_zero (scalar_form kind))) (sym is) in
    c.scalar_extent.ensures
    ∙ ap (λ b. record { bytes = scalar_bytes b; wide = not b }) small
    ∙ sym (ap tree_extent (other_data_tree t c.requires.sizes.fine c.args.at (λ r e. c.in_default.not-Record r (sym is ∙ e)) (c.requires.single c.if-at-known.false)))
