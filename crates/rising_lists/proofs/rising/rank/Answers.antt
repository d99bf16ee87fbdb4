use Rattle.std.proofs.Common.{ℕ, rules}
use Rattle.std.specs.Prelude.{nat_lt}
use Rattle.std.proofs.lemmas.List.Sorted.{IsPartitionPoint-from_clause}
use Rattle.rising_lists.proofs.Ranks.{parted, rank_is}
use Rattle.rising_lists.proofs.rising.rank.Goals as goal

pub returns-clause-rank : goal.returns-clause-rank
returns-clause-rank c rising =
    let numbers = c.args.numbers.now in
    let below = λ (x : ℕ). nat_lt x c.args.number in
    let point = IsPartitionPoint-from_clause below numbers c.partition_point.result c.partition_point.ensures.partitioned (parted c.args.number numbers rising) (λ a r q k. search rules) in
    rank_is c.args.number numbers c.partition_point.result point c.partition_point.ensures.bound
