use Rattle.link_layout.proofs.Ranking.{homes_are}
use Rattle.link_layout.proofs.laws.homes_are_those_of_copies.Goals as goal

pub returns : goal.returns
returns c = homes_are
