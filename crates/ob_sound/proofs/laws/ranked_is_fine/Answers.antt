use Rattle.ob_sound.proofs.Ranked.{ranked_fine}
use Rattle.ob_sound.proofs.laws.ranked_is_fine.Goals as goal

pub returns : goal.returns
returns c = ranked_fine
