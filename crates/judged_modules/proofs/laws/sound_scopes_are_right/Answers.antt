use Rattle.judged_modules.proofs.Righting.{right_of}
use Rattle.judged_modules.proofs.laws.sound_scopes_are_right.Goals as goal

pub returns : goal.returns
returns c = λ w p s agrees sound f here. right_of w p s agrees sound f here
