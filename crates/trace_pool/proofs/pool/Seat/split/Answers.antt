use Rattle.std.proofs.Common.{arith}
use Rattle.std.specs.Prelude.{Some}
use Rattle.trace_pool.specs.Plays.{over, over_fact}
use Rattle.trace_pool.proofs.Sharing.{splits}
use Rattle.trace_pool.proofs.pool.Seat.split.Goals as goal

pub split_seat-other-requires : goal.split_seat-other-requires
split_seat-other-requires g c =
    let wide = c.args.pool.now.sized in (
      c.requires.sits.same_table,
      omega arith,
      splits (over g.W.Work.parents) (over_fact g.W.Work.is_hint) (over_fact g.W.Work.is_final) (Some c.args.pool.now.table.shared.key) _ 4294967296 c.args.self.seat.me.0 (omega arith) c.requires.share,
    )
