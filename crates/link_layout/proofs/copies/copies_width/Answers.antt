use Rattle.std.proofs.Common.{◌∙◌, subst, map, ℕ, ◌<◌, ◌^◌}
use Rattle.link_layout.specs.Spots.{copy_of}
use Rattle.link_layout.proofs.Placing.{ok_more, err_more}
use Rattle.link_layout.proofs.Ranking.{widths_are}
use Rattle.link_layout.proofs.copies.copies_width.Goals as goal

pub returns-clause-width : goal.returns-clause-width
returns-clause-width c = ok_more _ _ c.width_of_copies.result (λ width h pr is. h ∙ widths_are c.args.homes.now c.args.outs pr is (map copy_of c.args.copies.now)) c.width_of_copies.ensures.width

pub returns-clause-limit : goal.returns-clause-limit
returns-clause-limit c = err_more _ _ c.width_of_copies.result (λ fault h pr is. subst (λ (n : ℕ). 2 ^ 18 < n) (widths_are c.args.homes.now c.args.outs pr is (map copy_of c.args.copies.now)) h) c.width_of_copies.ensures.limit
