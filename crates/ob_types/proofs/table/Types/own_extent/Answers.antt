use Rattle.std.proofs.Common.{sym, ap, ◌∙◌}
use Rattle.ob_types.specs.Forms.{form_or_zero, scalar_form}
use Rattle.ob_types.specs.Trees.{Scalar, tree_extent}
use Rattle.ob_types.proofs.DataTrees.{record_data_tree, other_data_tree}
use Rattle.ob_types.proofs.table.Types.own_extent.Goals as goal

pub returns-in-Record : goal.returns-in-Record
returns-in-Record c =
    let is = sym c.in-Record.ensures in
    c.said_extent.ensures
    ∙ c.requires.laid_out.records c.in-Record.r (c.requires.counted.record_there c.args.t c.in-Record.r is)
    ∙ sym (ap tree_extent (record_data_tree c.args.self.now c.requires.counted.fine c.args.t c.in-Record.r is))

pub returns-in_default : goal.returns-in_default
returns-in_default c =
    let t = c.args.self.now in
    c.scalar_extent.ensures
    ∙ ap (λ k. tree_extent (Scalar (form_or_zero (scalar_form k)))) c.kind.ensures
    ∙ sym (ap tree_extent (other_data_tree t c.requires.counted.fine c.args.t (λ r e. c.in_default.not-Record r (c.kind.ensures ∙ e)) c.requires.single))
