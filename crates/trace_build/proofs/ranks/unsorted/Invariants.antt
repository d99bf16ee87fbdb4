use Rattle.std.proofs.Common.{◌≡◌, ℕ, ◌<◌, length}
use Rattle.trace_build.specs.Ranks.{rank_at, IsRank}
use Rattle.trace_build.proofs.ranks.unsorted.Given as goal

abbrev pub invariant-loop-number : goal.invariant-loop-number
invariant-loop-number l = (length l.ranks.items ≡ l.number) × ((n : ℕ) → n < l.number → IsRank l.nodes (rank_at l.ranks.items n) × ((rank_at l.ranks.items n).node ≡ n))
