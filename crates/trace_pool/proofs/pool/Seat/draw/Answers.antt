use Rattle.std.proofs.Common.{arith, ◌≤◌, length, subst, ap}
use Rattle.trace_pool.proofs.Sharing.{saw_last, drawn_none}
use Rattle.trace_pool.specs.Slots.{SawNoMore}
use Rattle.trace_pool.specs.Plays.{entry}
use Rattle.pool_core.specs.Events.{drawn_seen}
use Rattle.pool_core.specs.declared.model.Event.TheVariants as event
use Rattle.trace_pool.specs.declared.parts.View.{View}
use Rattle.trace_pool.specs.Plays.{over, over_fact}
use Rattle.std.specs.declared.option.Option.{Option}
use Rattle.std.proofs.Common.{rules, sym, ◌∙◌}
use Rattle.trace_pool.proofs.Steps.{draws}
use Rattle.trace_pool.proofs.pool.Seat.draw.Goals as goal

pub fetch_add-found-requires : goal.fetch_add-found-requires
fetch_add-found-requires g c = (c.requires.sits.same_table, search rules, draws (over g.W.Work.parents) (over_fact g.W.Work.is_hint) (over_fact g.W.Work.is_final) _ _ c.args.self.now.seat.me (sym c.args.self.now.same ∙ c.requires.idle) c.requires.share _ c.requires.sits.same_work)

pub returns-else-found-slot_count-clause-stage : goal.returns-else-found-slot_count-clause-stage
returns-else-found-slot_count-clause-stage g c =
    let P = g.W.Work.parents c.args.pool.now.table.shared.key in
    let me = c.args.self.now.seat.me in
    let r = c.fetch_add-found.result in
    let none = drawn_none (over g.W.Work.parents me.0.work) r (subst (λ (w : Option g.row.W.Denot). length (over g.W.Work.parents w) ≤ r) (sym c.requires.sits.same_work) (omega (arith, c.requires.sits.sized, c.slot_count.ensures))) in (
      c.requires.idle,
      subst (λ (v : View (Option g.row.W.Denot)). SawNoMore v.trail) (sym (ap (λ m. m.0) c.fetch_add-found.ensures.2.0)) (saw_last me.0.trail (entry event.Draw (drawn_seen (over g.W.Work.parents me.0.work) r)) none),
    )
