use Rattle.std.proofs.Common.{arith, ◌≡◌, ◌+◌, ◌∷◌, ◌++◌, [], length, take, map, sym, ◌∙◌, ap, subst}
use Rattle.std.specs.Prelude.{Some}
use Rattle.pool_core.specs.Events.{AtRest}
use Rattle.trace_pool.specs.Ends.{done_of}
use Rattle.pool_core.proofs.Sums.{take_whole}
use Rattle.trace_pool.proofs.Ends.{closes, take_more, still_filled, still_empty}
use Rattle.trace_pool.proofs.pool.Pool.close.Goals as goal

pub loop-trace-preserved : goal.loop-trace-preserved
loop-trace-preserved g c =
    let i = c.loop-trace.invariant in
    let o = c.take.ensures.others in
    let more = take_more done_of _ c.loop-trace.trace c.take.result c.take.ensures.value in
    record {
      filled = λ k a b. still_filled _ _ c.loop-trace.trace k o.1 (omega arith) (i.filled k (omega arith) (omega (arith, o.2)));
      emptied = λ k a. still_empty _ _ c.loop-trace.trace k o.1 (λ ne. i.emptied k (omega arith));
      items = o.0 ∙ i.items;
      len = o.2 ∙ i.len;
      room = omega (arith, o.2, i.room, c.push_reserved.ensures.capacity);
      within = omega (arith, o.2, c.slot_count.ensures);
      results = c.push_reserved.ensures.items ∙ ((λ k. i.results k ++ c.result_of.ensures k ∷ []) ∙ (sym more ∙ ap (λ l. map done_of (take (c.loop-trace.trace + 1) l)) (sym o.0)));
    }

pub returns : goal.returns
returns g c =
    let i = c.loop-trace.invariant in
    let long = c.loop-trace.closed.slots.ok.0 in
    let whole : c.loop-trace.trace ≡ length c.loop-trace.closed.slots.items = omega (arith, i.within, c.slot_count.ensures) in
    closes (g.W.Work.parents c.args.self.table.shared.key) (g.W.Work.is_hint c.args.self.table.shared.key) (g.W.Work.is_final c.args.self.table.shared.key) (Some c.args.self.table.shared.key) _ c.args.seat.seat.me.0 _ _
    c.close_with-closed.ensures.values.2 c.requires.whole (subst AtRest c.args.seat.same c.requires.rest) c.loop-trace.results.items
    (i.results ∙ (ap (λ k. map done_of (take k c.loop-trace.closed.slots.items)) whole ∙ (ap (map done_of) (take_whole c.loop-trace.closed.slots.items) ∙ ap (map done_of) i.items)))
