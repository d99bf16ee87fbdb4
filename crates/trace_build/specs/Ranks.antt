-- The nodes in the order in which they are taken.
use Rattle.std.specs.Prelude.{◌≡◌, ℕ, ◌+◌, ◌<◌, ◌≤◌, true, List, length, slice_index_or}
use Rattle.lir_core.specs.declared.flow.Node.{Node}
use Rattle.lir_core.specs.Flows.{node_at}
use Rattle.trace_build.specs.Traces.{is_before}
use Rattle.trace_build.specs.declared.ranks.Rank.{Rank}

abbrev pub no_rank : Rank
no_rank = record { rarity = 0; node = 0 }

abbrev pub rank_at : List Rank → ℕ → Rank
rank_at ranks i = slice_index_or ranks i no_rank

-- a rank is that of its node
pub record IsRank (nodes : List Node) (r : Rank) : Type 0 where
  pub there : r.node < length nodes
  pub rarity : r.rarity + (node_at nodes r.node).freq ≡ 18446744073709551615

-- each node has a rank, by numbers
pub record AreRanks (nodes : List Node) (ranks : List Rank) : Type 0 where
  pub each : length ranks ≡ length nodes
  pub rank : (n : ℕ) → n < length nodes → IsRank nodes (rank_at ranks n) × ((rank_at ranks n).node ≡ n)

-- all nodes, each before those behind it
pub record AreRanked (nodes : List Node) (ranks : List Rank) : Type 0 where
  pub there : (i : ℕ) → i < length ranks → (rank_at ranks i).node < length nodes
  pub whole : (n : ℕ) → n < length nodes → (i : ℕ) × (i < length ranks) × ((rank_at ranks i).node ≡ n)
  pub ordered : (i j : ℕ) → i ≤ j → j < length ranks → is_before nodes (rank_at ranks i).node (rank_at ranks j).node ≡ true
