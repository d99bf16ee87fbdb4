use Rattle.std.proofs.Common.{ℕ, subst, ◌∙◌}
use Rattle.ob_judge.specs.Shapes.{Char}
use Rattle.ob_judge.specs.Image.{Literal}
use Rattle.ob_judge.specs.Operands.{value}
use Rattle.check_operands.specs.Operands.{Stands}
use Rattle.check_expressions.proofs.steps.char_literal.Goals as goal

pub returns : goal.returns
returns c =
    let s = c.args.scope.now in
    subst (λ (n : ℕ). Stands s c.literal.result (value Char (Literal n))) (c.from.ensures ∙ c.char_at.ensures) (c.literal.ensures s)
