-- Each right side, put together from its parts.
use Rattle.parse_steps.proofs.Steps.{took, taken_left, taken_right}
use Rattle.parse_expressions.proofs.operators.relation.Goals as goal

pub returns-then-is_at : goal.returns-then-is_at
returns-then-is_at c = taken_left (took _ _ _ _ c.if-is_at.ensures.tells c.advance-at.ensures.rest c.advance-at.ensures.at)

pub returns-then-is_at-2 : goal.returns-then-is_at-2
returns-then-is_at-2 c = taken_right c.if-is_at.ensures.tells (taken_left (took _ _ _ _ c.if-is_at-2.ensures.tells c.advance-at-then-is_at-2.ensures.rest c.advance-at-then-is_at-2.ensures.at))

pub returns-then-is_at-3 : goal.returns-then-is_at-3
returns-then-is_at-3 c = taken_right c.if-is_at.ensures.tells (taken_right c.if-is_at-2.ensures.tells (taken_left (took _ _ _ _ c.if-is_at-3.ensures.tells c.advance-at-then-is_at-3.ensures.rest c.advance-at-then-is_at-3.ensures.at)))

pub returns-then-is_at-4 : goal.returns-then-is_at-4
returns-then-is_at-4 c = taken_right c.if-is_at.ensures.tells (taken_right c.if-is_at-2.ensures.tells (taken_right c.if-is_at-3.ensures.tells (taken_left (took _ _ _ _ c.if-is_at-4.ensures.tells c.advance-at-then-is_at-4.ensures.rest c.advance-at-then-is_at-4.ensures.at))))

pub returns-then-is_at-5 : goal.returns-then-is_at-5
returns-then-is_at-5 c = taken_right c.if-is_at.ensures.tells (taken_right c.if-is_at-2.ensures.tells (taken_right c.if-is_at-3.ensures.tells (taken_right c.if-is_at-4.ensures.tells (taken_left (took _ _ _ _ c.if-is_at-5.ensures.tells c.advance-at-then-is_at-5.ensures.rest c.advance-at-then-is_at-5.ensures.at)))))

pub returns-then-is_at-6 : goal.returns-then-is_at-6
returns-then-is_at-6 c = taken_right c.if-is_at.ensures.tells (taken_right c.if-is_at-2.ensures.tells (taken_right c.if-is_at-3.ensures.tells (taken_right c.if-is_at-4.ensures.tells (taken_right c.if-is_at-5.ensures.tells (taken_left (took _ _ _ _ c.if-is_at-6.ensures.tells c.advance-at-then-is_at-6.ensures.rest c.advance-at-then-is_at-6.ensures.at))))))

pub returns-then-is_at-7 : goal.returns-then-is_at-7
returns-then-is_at-7 c = taken_right c.if-is_at.ensures.tells (taken_right c.if-is_at-2.ensures.tells (taken_right c.if-is_at-3.ensures.tells (taken_right c.if-is_at-4.ensures.tells (taken_right c.if-is_at-5.ensures.tells (taken_right c.if-is_at-6.ensures.tells (taken_left (took _ _ _ _ c.if-is_at-7.ensures.tells c.advance-at-then-is_at-7.ensures.rest c.advance-at-then-is_at-7.ensures.at)))))))

pub returns-then-is_at-8 : goal.returns-then-is_at-8
returns-then-is_at-8 c = taken_right c.if-is_at.ensures.tells (taken_right c.if-is_at-2.ensures.tells (taken_right c.if-is_at-3.ensures.tells (taken_right c.if-is_at-4.ensures.tells (taken_right c.if-is_at-5.ensures.tells (taken_right c.if-is_at-6.ensures.tells (taken_right c.if-is_at-7.ensures.tells (took _ _ _ _ c.if-is_at-8.ensures.tells c.advance-at-then-is_at-8.ensures.rest c.advance-at-then-is_at-8.ensures.at)))))))
