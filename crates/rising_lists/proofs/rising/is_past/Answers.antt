use Rattle.std.proofs.Common.{◌-◌, ◌<◌, get_or, arith}
use Rattle.std.proofs.lemmas.Bool.Decides.{nat_tests}
use Rattle.rising_lists.proofs.Ranks.{below_rank}
use Rattle.rising_lists.proofs.rising.is_past.Goals as goal

pub returns-in-Some-clause-rank : goal.returns-in-Some-clause-rank
returns-in-Some-clause-rank c rising is =
    let found = c.in-Some.ensures.lookup.3 in
    let below : c.in-Some.before.now < c.args.number = grind (arith, nat_tests) in
    let at = found.1 0 in
    let before : get_or c.args.numbers.now (c.args.index - 1) 0 < c.args.number = omega (arith, at, below) in
    let past = below_rank c.args.number c.args.numbers.now (c.args.index - 1) 0 rising found.0 before in
    omega (arith, past)
