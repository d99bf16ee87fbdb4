use Rattle.std.proofs.Common.{◌+◌, ◌/◌, ◌<◌, ◌^◌, get_or, arith, w64}
use Rattle.std.specs.Int.{trailing_zeros}
use Rattle.lir_core.proofs.Lowest.{lowest_below}
use Rattle.value_sets.proofs.Bits.{value_pushed, done_early, done_late}
use Rattle.value_sets.proofs.words.push_word.Goals as goal

pub overflow_add-first : goal.overflow_add-first
overflow_add-first c =
    let b : get_or c.args.words.now c.args.at 0 < 2 ^ 64 = omega (arith, c.type_inv.words c.args.at) in
    let h : 0 < get_or c.args.words.now c.args.at 0 / 2 ^ c.loop-from.from = omega arith in
    let l : c.loop-from.from + trailing_zeros w64 (get_or c.args.words.now c.args.at 0 / 2 ^ c.loop-from.from) < 64 = lowest_below c.args.words.now c.args.at c.loop-from.from b h in
    omega (arith, l)

pub loop-from-preserved : goal.loop-from-preserved
loop-from-preserved c =
    let b : get_or c.args.words.now c.args.at 0 < 2 ^ 64 = omega (arith, c.type_inv.words c.args.at) in
    let h : 0 < get_or c.args.words.now c.args.at 0 / 2 ^ c.loop-from.from = omega arith in
    let l : c.loop-from.from + trailing_zeros w64 (get_or c.args.words.now c.args.at 0 / 2 ^ c.loop-from.from) < 64 = lowest_below c.args.words.now c.args.at c.loop-from.from b h in
    (omega (arith, l), value_pushed c.args.words.now c.loop-from.list.items c.push.new.self.items _ c.args.at c.loop-from.from b h c.in_ok-push.ensures.items c.loop-from.invariant.1)

pub returns-else-words-at-ne0 : goal.returns-else-words-at-ne0
returns-else-words-at-ne0 c = done_early c.args.words.now c.loop-from.list.items c.args.list.now.items c.args.at c.loop-from.from (omega arith) c.loop-from.invariant.1

pub returns-after-loop-from : goal.returns-after-loop-from
returns-after-loop-from c = done_late c.args.words.now c.loop-from.list.items c.args.list.now.items c.args.at c.loop-from.from (omega arith) c.loop-from.invariant.1
