use Rattle.boundary_resolve.proofs.Between.{node_sound}
use Rattle.boundary_resolve.proofs.laws.nodes_are_sound.Goals as goal

pub returns : goal.returns
returns c = node_sound
