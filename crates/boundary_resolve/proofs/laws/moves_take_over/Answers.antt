use Rattle.boundary_resolve.proofs.Crossing.{takes_over}
use Rattle.boundary_resolve.proofs.laws.moves_take_over.Goals as goal

pub returns : goal.returns
returns c = takes_over
