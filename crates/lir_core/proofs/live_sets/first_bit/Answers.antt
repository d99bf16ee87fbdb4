use Rattle.std.proofs.Common.{◌<◌, ◌^◌, get_or, arith}
use Rattle.lir_core.proofs.Lowest.{lowest_of_word}
use Rattle.lir_core.proofs.live_sets.first_bit.Goals as goal

pub returns-then-row-at-ne0 : goal.returns-then-row-at-ne0
returns-then-row-at-ne0 c =
    let a : 0 < get_or c.args.row.now c.loop-at.at 0 = omega arith in
    let b : get_or c.args.row.now c.loop-at.at 0 < 2 ^ 64 = omega (arith, c.type_inv.row c.loop-at.at) in
    lowest_of_word c.args.row.now c.args.word c.loop-at.at (omega arith) b a c.loop-at.invariant
