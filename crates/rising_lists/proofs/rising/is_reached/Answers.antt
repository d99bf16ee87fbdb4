use Rattle.std.proofs.Common.{◌≤◌, get_or, arith}
use Rattle.std.proofs.lemmas.Bool.Decides.{nat_tests}
use Rattle.rising_lists.proofs.Ranks.{not_below, rank_bound}
use Rattle.rising_lists.proofs.rising.is_reached.Goals as goal

pub returns-in-Some : goal.returns-in-Some
returns-in-Some c is =
    let found = c.in-Some.ensures.lookup.3 in
    let at = found.1 0 in
    let above : c.args.number ≤ c.in-Some.found.now = grind (arith, nat_tests) in
    let above_at : c.args.number ≤ get_or c.args.numbers.now c.args.index 0 = omega (arith, at, above) in
    not_below c.args.number c.args.numbers.now c.args.index 0 found.0 above_at

pub returns-in-None : goal.returns-in-None
returns-in-None c is =
    let bound = rank_bound c.args.number c.args.numbers.now in
    let past = c.in-None.ensures.lookup in
    omega (arith, bound, past)
