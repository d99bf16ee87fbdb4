use Rattle.std.proofs.Common.{◌+◌, arith}
use Rattle.trace_build.specs.Ranks.{no_rank, rank_at}
use Rattle.trace_build.proofs.Order.{are_ranked, from_order}
use Rattle.trace_build.proofs.ranks.ranks.Goals as goal

pub returns : goal.returns
returns c = are_ranked c.args.nodes.now c.in_ok-ranks.ranks.items c.sort_unstable.new.self.items c.in_ok-ranks.ensures c.sort_unstable.ensures.permutation (λ k lt. from_order (rank_at c.sort_unstable.new.self.items k).rarity (rank_at c.sort_unstable.new.self.items (k + 1)).rarity (rank_at c.sort_unstable.new.self.items k).node (rank_at c.sort_unstable.new.self.items (k + 1)).node (c.sort_unstable.ensures.sorted k no_rank (omega arith) lt))
