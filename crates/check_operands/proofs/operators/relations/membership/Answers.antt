use Rattle.std.proofs.Common.{◌≡◌, refl, ap₂, ◌∙◌}
use Rattle.ob_judge.specs.Shapes.{Boolean}
use Rattle.ob_judge.specs.Image.{In}
use Rattle.ob_judge.specs.Operands.{form}
use Rattle.check_types.specs.names.Worlds.{table_of}
use Rattle.check_operands.specs.Operands.{texts_of}
use Rattle.check_operands.proofs.operators.relations.membership.Goals as goal

pub returns : goal.returns
returns c = λ a b h k.
    let s = c.args.scope.now in
    record {
      by = c.value.ensures s Boolean (In (form a) (form b)) refl
          (c.in_ok-tree.ensures (table_of s) (texts_of s) ∙ ap₂ In (c.form-left.ensures a h) (c.form-right.ensures b k));
    }
