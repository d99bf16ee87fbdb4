use Rattle.std.proofs.Common.{◌≡◌, ◌≤◌, drop, length, ℕ}
use Rattle.link_words.specs.Fields.{entry_in}
use Rattle.link_layout.specs.Spots.{rank_behind}
use Rattle.link_layout.proofs.Ranking.{rank_from}
use Rattle.link_layout.proofs.homes.behind_ranks.Given as goal

abbrev pub invariant-loop-i : goal.invariant-loop-i
invariant-loop-i l = record { within : l.i ≤ length l.homes; ranks : (v : ℕ) → rank_behind (entry_in l.behind.items v) ≡ rank_from l.i (drop l.i l.homes) v }

abbrev pub decreases-loop-i : goal.decreases-loop-i
decreases-loop-i l = l.i
