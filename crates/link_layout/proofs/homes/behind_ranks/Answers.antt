use Rattle.std.proofs.Common.{◌≡◌, ◌∙◌, ap, arith, refl, drop}
use Rattle.link_layout.proofs.Ranking.{rank_from, ranks_are, ranks_more}
use Rattle.link_layout.proofs.homes.behind_ranks.Goals as goal

pub loop-i-preserved : goal.loop-i-preserved
loop-i-preserved c = record {
  within = omega (arith, c.loop-i.invariant.within);
  ranks = ranks_more c.args.homes.now c.loop-i.i _ _ c.loop-i.behind.items c.put.new.numbers.items c.loop-i.invariant.ranks (omega (arith, c.loop-i-test.true)) (omega (arith, c.loop-i.invariant.within, c.loop-i-test.true)) refl c.in_ok-put.ensures.one c.put.ensures.others;
}

pub returns : goal.returns
returns c = λ v. let none : c.loop-i.i ≡ 0 = omega (arith, c.loop-i-test.false) in c.loop-i.invariant.ranks v ∙ ap (λ n. rank_from n (drop n c.args.homes.now) v) none ∙ ranks_are c.args.homes.now v
