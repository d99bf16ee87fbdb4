use Rattle.std.proofs.Common.{◌<◌, get_or, arith}
use Rattle.rising_lists.proofs.Ranks.{below_rank, not_below, rank_bound}
use Rattle.rising_lists.proofs.finder.reach.Goals as goal

pub returns-then-numbers-at : goal.returns-then-numbers-at
returns-then-numbers-at c rising =
    let low = c.loop-at.invariant rising in
    let high = not_below c.args.number c.args.numbers.now c.loop-at.at 0 c.loop-at-test.true c.if-numbers-at.true in
    omega (arith, low, high)

pub loop-at-preserved : goal.loop-at-preserved
loop-at-preserved c rising =
    let below : get_or c.args.numbers.now c.loop-at.at 0 < c.args.number = omega arith in
    let found = below_rank c.args.number c.args.numbers.now c.loop-at.at 0 rising c.loop-at-test.true below in
    omega (arith, found)

pub returns : goal.returns
returns c rising =
    let low = c.loop-at.invariant rising in
    let high = rank_bound c.args.number c.args.numbers.now in
    omega (arith, low, high)
