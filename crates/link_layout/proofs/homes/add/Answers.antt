use Rattle.std.proofs.Common.{◌∙◌, ap, sym}
use Rattle.placed_code.specs.Results.{with_home}
use Rattle.link_layout.specs.Spots.{spot_of}
use Rattle.link_layout.proofs.Placing.{ok_more}
use Rattle.link_layout.proofs.Ranking.{inserted_is}
use Rattle.link_layout.proofs.homes.add.Goals as goal

pub returns-in-Home : goal.returns-in-Home
returns-in-Home c = ok_more _ _ c.insert.result (λ u h. h ∙ inserted_is c.in-Home.value c.args.homes.now ∙ ap (λ s. with_home (spot_of s) c.args.homes.now) (sym c.in-Home.is)) c.insert.ensures
