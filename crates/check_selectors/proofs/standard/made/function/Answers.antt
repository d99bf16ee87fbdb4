use Rattle.std.proofs.Common.{refl, ap, ◌∙◌}
use Rattle.ob_judge.specs.Operands.{Valued}
use Rattle.judged_tree.specs.Plain.{plain_expr}
use Rattle.check_types.specs.names.Worlds.{table_of}
use Rattle.check_operands.specs.Operands.{texts_of}
use Rattle.check_operands.specs.declared.trees.values.Value.{Value}
use Rattle.check_selectors.proofs.standard.made.function.Goals as goal

pub returns : goal.returns
returns c = λ s shape x h k. record {
  shape = h;
  what = ap (λ (v : Value). Valued (plain_expr (table_of s) (texts_of s) v.tree)) c.new.ensures ∙ ap Valued k;
  usage = refl;
}
