use Rattle.std.proofs.Common.{◌≡◌, refl, ap, ◌∙◌}
use Rattle.ob_judge.specs.Image.{Apply}
use Rattle.ob_judge.specs.Operands.{form}
use Rattle.check_types.specs.TypeMeaning.{type_shape}
use Rattle.check_types.specs.names.Worlds.{table_of}
use Rattle.check_operands.specs.Operands.{texts_of}
use Rattle.check_operands.proofs.operators.operators.applied.Goals as goal

pub returns : goal.returns
returns c = λ a h.
    let s = c.args.scope.now in
    record {
      by = c.value.ensures s (type_shape (table_of s) c.args.of) (Apply c.args.operator (form a)) refl
          (c.in_ok-tree.ensures (table_of s) (texts_of s) ∙ ap (Apply c.args.operator) (c.form-operand.ensures a h));
    }
