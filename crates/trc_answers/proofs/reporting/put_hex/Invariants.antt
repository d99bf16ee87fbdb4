use Rattle.std.proofs.Common.{◌≡◌, ◌≤◌, ◌++◌, length, drop}
use Rattle.trc_answers.specs.Causes.{hex}
use Rattle.trc_answers.proofs.reporting.put_hex.Given as goal

-- what is put are the last digits, and those that are wanted in front are the digits of what is left
abbrev pub invariant-loop-at : goal.invariant-loop-at
invariant-loop-at l = (l.at ≤ length l.digits) × (length l.digits ≡ length l.initial.digits) × (hex (length l.initial.digits) l.number ≡ hex l.at l.left ++ drop l.at l.digits)

abbrev pub decreases-loop-at : goal.decreases-loop-at
decreases-loop-at l = l.at
