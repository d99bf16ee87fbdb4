use Rattle.std.proofs.Common.{◌≡◌, ap, ap₂, ◌∙◌}
use Rattle.ob_judge.specs.Image.{Linked}
use Rattle.ob_judge.specs.Operands.{form}
use Rattle.check_types.specs.names.Worlds.{table_of}
use Rattle.check_operands.specs.Operands.{texts_of, bases_of}
use Rattle.check_operands.specs.operators.Rows.{row_shape, row_link}
use Rattle.check_operands.proofs.operators.RowsOutlined.{link_outlined}
use Rattle.check_operands.proofs.operators.operators.rowed.Goals as goal

pub returns : goal.returns
returns c = λ a b h k.
    let s = c.args.scope.now in
    record {
      by = c.value.ensures s (row_shape c.args.row) (Linked (form a) (row_link c.args.row (form b))) (c.of.ensures (table_of s))
          (c.in_ok-tree.ensures (table_of s) (texts_of s)
          ∙ ap₂ Linked (c.form-left.ensures a h) (c.link.ensures (table_of s) (texts_of s) ∙ ap (row_link c.args.row) (c.form-right.ensures b k) ∙ link_outlined (bases_of s) c.args.row (form b)));
    }
