use Rattle.std.proofs.Common.{zero, ◌≤◌, ◌-◌, List, ◌++◌, length, drop}
use Rattle.ob_symbol.specs.declared.symbol.Symbol.{Symbol}
use Rattle.ob_scan.specs.Scans.{Scans, End}
use Rattle.ob_scan.proofs.scanner.scan.Given as goal

abbrev pub invariant-symbols : goal.invariant-symbols
invariant-symbols l = record {
  so_far : (more : List Symbol) (e : End) → Scans l.at (drop l.at l.bytes) more e → Scans zero l.bytes (l.symbols.items ++ more) e;
  high : l.at ≤ length l.bytes;
}

abbrev pub decreases-symbols : goal.decreases-symbols
decreases-symbols l = length l.bytes - l.at
