use Rattle.lir_core.proofs.Walking.{walked}
use Rattle.lir_core.proofs.laws.walks_are_sound.Goals as goal

pub returns : goal.returns
returns c = walked
