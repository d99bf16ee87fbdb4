use Rattle.std.proofs.Common.{refl, ap, ◌∙◌}
use Rattle.ob_judge.specs.Shapes.{Boolean}
use Rattle.ob_judge.specs.Image.{IsPointer}
use Rattle.ob_judge.specs.Operands.{form}
use Rattle.check_types.specs.names.Worlds.{table_of}
use Rattle.check_operands.specs.Operands.{texts_of}
use Rattle.check_selectors.proofs.parts.guards.pointer_test.Goals as goal

pub returns : goal.returns
returns c = λ a h.
    let s = c.args.scope.now in
    record { by = c.value.ensures s Boolean (IsPointer (form a) c.args.r) refl (c.in_ok-tree.ensures (table_of s) (texts_of s) ∙ ap (λ x. IsPointer x c.args.r) (c.form.ensures a h)) }
