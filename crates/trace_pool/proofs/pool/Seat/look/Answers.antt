use Rattle.trace_pool.specs.Plays.{over, over_fact}
use Rattle.std.proofs.Common.{arith, ◌+◌, ◌<◌, sym, ◌∙◌, subst}
use Rattle.trace_pool.specs.Sits.{InRange}
use Rattle.trace_pool.proofs.Steps.{looks}
use Rattle.trace_pool.proofs.Stops.{sees_after}
use Rattle.trace_pool.specs.Plays.{looked}
use Rattle.atomic_table.specs.Table.{step}
use mathlib.Core.Option as m
use Rattle.trace_pool.proofs.pool.Seat.look.Goals as goal

pub load-found-requires : goal.load-found-requires
load-found-requires g c =
    let cell_in : c.in-Ticket.cell < c.args.pool.now.table.shared.table_id.slots = subst (InRange c.args.pool.now.table.shared.table_id.slots) c.in-Ticket.is c.requires.sits.in_range in
    let wide = c.args.pool.now.sized in (
      c.requires.sits.same_table,
      omega arith,
      looks (over g.W.Work.parents) (over_fact g.W.Work.is_hint) (over_fact g.W.Work.is_final) _ _ c.args.self.now.seat.me c.in-Ticket.cell (sym c.args.self.now.same ∙ c.in-Ticket.is) _ c.requires.sits.same_work,
    )

pub load-requires : goal.load-requires
load-requires g c =
    let wide = c.args.pool.now.sized in
    let me = c.args.self.now.seat.me in
    let told = subst (λ r. looked (over g.W.Work.parents) (over_fact g.W.Work.is_hint) (step c.args.pool.now.table.shared.table_id.slots (c.in-Ticket.cell + 4) 0 0 m.none) me r c.load-found.new.seat.me) c.if-found-eq0.true c.load-found.ensures.2 in (
      c.load-found.ensures.0 ∙ c.requires.sits.same_table,
      omega arith,
      sees_after (over g.W.Work.parents) (over_fact g.W.Work.is_hint) (over_fact g.W.Work.is_final) _ _ c.load-found.new.seat.me me.0 me.1 c.in-Ticket.cell told (sym c.args.self.now.same ∙ c.in-Ticket.is) _ c.requires.sits.same_work,
    )
