use Rattle.ob_sound.proofs.Programs.{makes_sense}
use Rattle.ob_sound.proofs.laws.makes_sense.Goals as goal

pub returns : goal.returns
returns c = makes_sense
