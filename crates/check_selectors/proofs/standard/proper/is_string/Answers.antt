use Rattle.std.proofs.Common.{◌&&◌, ◌||◌, sym, ap, ◌∙◌}
use Rattle.ob_judge.specs.Operands.{is_variable}
use Rattle.ob_judge.specs.Operators.{is_text}
use Rattle.check_selectors.proofs.standard.proper.is_string.Goals as goal

pub returns-then-is_chars : goal.returns-then-is_chars
returns-then-is_chars c = λ a h. ap (λ b. b || is_variable a && is_text a.shape) (c.is_chars.ensures a.what h.what ∙ c.if-is_chars.true) ∙ sym c.if-is_chars.true
