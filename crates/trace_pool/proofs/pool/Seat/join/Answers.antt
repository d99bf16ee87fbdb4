use Rattle.std.proofs.Common.{arith, subst}
use Rattle.std.specs.Prelude.{Some, None}
use Rattle.pool_core.specs.Events.{AtRest}
use Rattle.trace_pool.specs.Plays.{over, over_fact}
use Rattle.trace_pool.proofs.Sharing.{joins, rest_carries}
use Rattle.trace_pool.proofs.pool.Seat.join.Goals as goal

pub join_seat-requires : goal.join_seat-requires
join_seat-requires g c =
    let wide = c.args.pool.now.sized in (
      c.requires.first.same_table,
      c.requires.second.same_table,
      rest_carries _ _ _ c.requires.rest.1 c.requires.second.carries,
      omega arith,
      joins (over g.W.Work.parents) (over_fact g.W.Work.is_hint) (over_fact g.W.Work.is_final) (Some c.args.pool.now.table.shared.key) _ _ c.args.self.seat.me.0 c.args.other.seat.me.0 None
          (subst AtRest c.args.self.same c.requires.rest.0) (subst AtRest c.args.other.same c.requires.rest.1),
    )
