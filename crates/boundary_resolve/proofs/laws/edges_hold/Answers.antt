use Rattle.boundary_resolve.proofs.Between.{edges_hold_all}
use Rattle.boundary_resolve.proofs.laws.edges_hold.Goals as goal

pub returns : goal.returns
returns c = edges_hold_all
