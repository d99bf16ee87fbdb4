use Rattle.std.proofs.Common.{◌≡◌, sym, ap, ap₂, ◌∙◌}
use Rattle.ob_judge.specs.Judged.{Keeps}
use Rattle.ob_judge.specs.Shapes.{Boolean}
use Rattle.ob_judge.specs.Operators.{are_texts, are_included}
use Rattle.ob_judge.specs.Operands.{value}
use Rattle.check_types.proofs.steps.Answering.{as_judged}
use Rattle.check_types.specs.names.Worlds.{world_of}
use Rattle.check_operands.proofs.operators.RowsOutlined.{comparison_included}
use Rattle.check_operands.proofs.operators.relations.comparison.Goals as goal

pub returns-then-are_included : goal.returns-then-are_included
returns-then-are_included c = λ a b h k.
    let s = c.args.scope.now in
    as_judged (ap (λ x. Keeps (value Boolean x)) (comparison_included s.source.now (world_of s) c.args.relation a b
    (ap₂ are_texts (sym h.shape) (sym k.shape) ∙ c.are_texts.ensures ∙ c.if-are_texts.false)
    (ap₂ (are_included c.args.relation) (sym h.shape) (sym k.shape) ∙ c.are_included.ensures ∙ c.if-are_included.true)))
    (c.of_sets.ensures a b h k)
