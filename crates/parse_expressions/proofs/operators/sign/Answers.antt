-- Each right side, put together from its parts.
use Rattle.parse_steps.proofs.Steps.{took, taken_left, taken_right}
use Rattle.parse_expressions.proofs.operators.sign.Goals as goal

pub returns-then-is_at : goal.returns-then-is_at
returns-then-is_at c = taken_left (took _ _ _ _ c.if-is_at.ensures.tells c.advance-at.ensures.rest c.advance-at.ensures.at)

pub returns-then-is_at-2 : goal.returns-then-is_at-2
returns-then-is_at-2 c = taken_right c.if-is_at.ensures.tells (took _ _ _ _ c.if-is_at-2.ensures.tells c.advance-at-then-is_at-2.ensures.rest c.advance-at-then-is_at-2.ensures.at)
