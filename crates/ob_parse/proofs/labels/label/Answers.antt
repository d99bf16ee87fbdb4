-- Each right side, put together from its parts.
use Rattle.parse_steps.proofs.Steps.{reads_part, reads_left, reads_right, fails_part, fails_right, gives_err, took}
use Rattle.ob_parse.proofs.labels.label.Goals as goal

pub returns-then-is_at : goal.returns-then-is_at
returns-then-is_at c = reads_part (reads_left c.if-is_at.ensures.tells (took _ _ _ _ c.if-is_at.ensures.tells c.advance-at.ensures.rest c.advance-at.ensures.at).read)

pub returns-then-is_at-2 : goal.returns-then-is_at-2
returns-then-is_at-2 c = reads_part (reads_right c.if-is_at.ensures.tells (reads_left c.if-is_at-2.ensures.tells (took _ _ _ _ c.if-is_at-2.ensures.tells c.advance-at-then-is_at-2.ensures.rest c.advance-at-then-is_at-2.ensures.at).read))

pub returns-then-is_at-3 : goal.returns-then-is_at-3
returns-then-is_at-3 c = reads_part (reads_right c.if-is_at.ensures.tells (reads_right c.if-is_at-2.ensures.tells (reads_left c.if-is_at-3.ensures.tells (took _ _ _ _ c.if-is_at-3.ensures.tells c.advance-at-then-is_at-3.ensures.rest c.advance-at-then-is_at-3.ensures.at).read)))

pub returns-in_err-name : goal.returns-in_err-name
returns-in_err-name c = gives_err _ c.from_residual.result c.from_residual.ensures.1 (fails_part (fails_right c.if-is_at.ensures.tells (fails_right c.if-is_at-2.ensures.tells (fails_right c.if-is_at-3.ensures.tells c.in_err-name.ensures))))

pub returns-in_ok-name : goal.returns-in_ok-name
returns-in_ok-name c = reads_part (reads_right c.if-is_at.ensures.tells (reads_right c.if-is_at-2.ensures.tells (reads_right c.if-is_at-3.ensures.tells c.in_ok-name.ensures)))
