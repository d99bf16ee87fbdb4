use Rattle.std.proofs.Common.{◌≡◌, ◌++◌, map, drop}
use Rattle.whole_page.specs.Summaries.{rank_of}
use Rattle.whole_page.proofs.summaries.ranks_of.Given as goal

abbrev pub invariant-loop-row : goal.invariant-loop-row
invariant-loop-row l = l.ranks.items ++ map rank_of (drop l.row-index l.rows) ≡ map rank_of l.rows
