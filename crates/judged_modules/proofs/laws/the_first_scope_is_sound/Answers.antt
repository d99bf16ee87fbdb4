use Rattle.judged_modules.proofs.ModulesStand.{first_sound}
use Rattle.judged_modules.proofs.laws.the_first_scope_is_sound.Goals as goal

pub returns : goal.returns
returns c = first_sound
