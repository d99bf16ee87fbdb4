-- The expression behind RETURN, where there is a result, and none where there is none.
use Rattle.std.specs.Prelude.{Bool, true, false, Option, Some, None}
use Rattle.ob_judge.specs.Shapes.{Shape, Nothing}
use Rattle.ob_judge.specs.Image.{Checked}
use Rattle.judged_well.specs.Setting.{Setting}
use Rattle.judged_well.specs.Typing.{outline, checked_form, given_for, scalar}

abbrev pub answer_suits : Setting → Shape → Option Checked → Bool
answer_suits e Nothing None = true
answer_suits e s None = false
answer_suits e s (Some x) = given_for e (checked_form e (outline e) x) (scalar e s)
