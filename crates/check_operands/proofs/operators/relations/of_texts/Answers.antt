use Rattle.std.proofs.Common.{◌≡◌, refl, ap₂, ◌∙◌}
use Rattle.ob_judge.specs.Shapes.{Boolean}
use Rattle.ob_judge.specs.Image.{CompareTexts}
use Rattle.ob_judge.specs.Operands.{designator_of}
use Rattle.check_types.specs.names.Worlds.{table_of}
use Rattle.check_operands.specs.Operands.{texts_of}
use Rattle.check_operands.proofs.operators.relations.of_texts.Goals as goal

pub returns : goal.returns
returns c = λ a b h k.
    let s = c.args.scope.now in
    record {
      by = c.value.ensures s Boolean (CompareTexts c.args.relation (designator_of a) (designator_of b)) refl
          (c.in_ok-tree.ensures (table_of s) (texts_of s) ∙ ap₂ (CompareTexts c.args.relation) (c.designator-left.ensures a h) (c.designator-right.ensures b k));
    }
