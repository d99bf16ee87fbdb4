use Rattle.std.proofs.Common.{arith, rules}
use Rattle.ob_scan.proofs.Places.{nothing_left}
use Rattle.ob_scan.proofs.Turns.{all_read, so_far_read, first_stop}
use Rattle.ob_scan.proofs.scanner.scan.Goals as goal

pub returns-then-from-bytes-clause-symbols : goal.returns-then-from-bytes-clause-symbols
returns-then-from-bytes-clause-symbols c = all_read c.args.bytes.now c.symbols.at c.in_ok-from.from c.symbols.symbols.items c.symbols.invariant.so_far c.in_ok-from.ensures.past (nothing_left c.args.bytes.now c.in_ok-from.from (omega arith))

pub returns-in_err-at-clause-first : goal.returns-in_err-at-clause-first
returns-in_err-at-clause-first c =
    let k = first_stop c.args.bytes.now c.symbols.at c.in_ok-from.from c.symbols.symbols.items _ c.symbols.invariant.so_far c.symbols.invariant.high c.in_ok-from.ensures.past (let r = c.in_ok-from.ensures.range.1 in omega arith) c.in_ok-from.ensures.comment c.in_err-at.ensures.stops in
    search rules

pub symbols-preserved : goal.symbols-preserved
symbols-preserved c = record {
  so_far = so_far_read c.args.bytes.now c.symbols.at c.in_ok-from.from c.in_ok-at.at c.symbols.symbols.items _ c.symbols.invariant.so_far c.symbols.invariant.high c.in_ok-from.ensures.past c.in_ok-from.ensures.range.1 c.in_ok-from.ensures.comment c.in_ok-at.ensures.read;
  high = c.in_ok-at.ensures.read.high;
}
