use Rattle.std.proofs.Common.{◌≡◌, ◌+◌, ◌*◌, ◌<◌, ◌^◌, ◌/◌, ◌%◌, get_or, arith, w64}
use Rattle.std.specs.Int.{trailing_zeros}
use Rattle.lir_core.proofs.Lowest.{none_here, next_behind, lowest_here, lowest_below}
use Rattle.lir_core.proofs.live_sets.next_bit.Goals as goal

pub overflow_add-result : goal.overflow_add-result
overflow_add-result c =
    let b : get_or c.args.row.now (c.args.from / 64) 0 < 2 ^ 64 = omega (arith, c.type_inv.row (c.args.from / 64)) in
    let a : 0 < get_or c.args.row.now (c.args.from / 64) 0 / 2 ^ (c.args.from % 64) = omega arith in
    let d : c.args.from % 64 + trailing_zeros w64 (get_or c.args.row.now (c.args.from / 64) 0 / 2 ^ (c.args.from % 64)) < 64 = lowest_below c.args.row.now (c.args.from / 64) (c.args.from % 64) b a in
    omega arith

pub returns-then-rest-ne0 : goal.returns-then-rest-ne0
returns-then-rest-ne0 c =
    let b : get_or c.args.row.now (c.args.from / 64) 0 < 2 ^ 64 = omega (arith, c.type_inv.row (c.args.from / 64)) in
    let a : 0 < get_or c.args.row.now (c.args.from / 64) 0 / 2 ^ (c.args.from % 64) = omega arith in
    lowest_here c.args.row.now c.args.from b a

pub returns : goal.returns
returns c =
    let a : get_or c.args.row.now (c.args.from / 64) 0 / 2 ^ (c.args.from % 64) ≡ 0 = omega arith in
    next_behind c.args.row.now c.args.from ((c.args.from / 64 + 1) * 64) c.first_bit.result (omega arith) (none_here c.args.row.now c.args.from a) c.first_bit.ensures
