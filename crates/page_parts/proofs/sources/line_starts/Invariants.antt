use Rattle.std.proofs.Common.{◌≡◌, ◌++◌, drop}
use Rattle.page_parts.specs.Sources.{line_starts, starts_from}
use Rattle.page_parts.proofs.sources.line_starts.Given as goal

abbrev pub invariant-loop-at : goal.invariant-loop-at
invariant-loop-at l = line_starts l.text ≡ l.starts.items ++ starts_from l.fresh l.at (drop l.at l.text)
