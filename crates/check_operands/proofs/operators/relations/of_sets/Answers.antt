use Rattle.std.proofs.Common.{◌≡◌, refl, ap, ap₂, ◌∙◌}
use Rattle.ob_judge.specs.Shapes.{Boolean}
use Rattle.ob_judge.specs.Image.{Linked}
use Rattle.ob_judge.specs.Operands.{form}
use Rattle.check_types.specs.names.Worlds.{table_of}
use Rattle.check_operands.specs.Operands.{texts_of, bases_of}
use Rattle.check_operands.specs.operators.Judged.{inclusion_link_of}
use Rattle.check_operands.proofs.operators.RowsOutlined.{inclusion_outlined}
use Rattle.check_operands.proofs.operators.relations.of_sets.Goals as goal

pub returns : goal.returns
returns c = λ a b h k.
    let s = c.args.scope.now in
    record {
      by = c.value.ensures s Boolean (Linked (form a) (inclusion_link_of c.args.relation (form b))) refl
          (c.in_ok-tree.ensures (table_of s) (texts_of s)
          ∙ ap₂ Linked (c.form-left.ensures a h) (c.inclusion_link.ensures (table_of s) (texts_of s) ∙ ap (inclusion_link_of c.args.relation) (c.form-right.ensures b k) ∙ inclusion_outlined (bases_of s) c.args.relation (form b)));
    }
