use Rattle.trace_pool.specs.Plays.{over, over_fact}
use Rattle.std.specs.declared.option.Option.{Option}
use Rattle.std.proofs.Common.{rules, arith, ◌≡◌, ◌∷◌, length, List, sym, ◌∙◌, ap, subst}
use Rattle.std.specs.Prelude.{Some}
use Rattle.atomic_table.specs.Table.{rest}
use Rattle.trace_pool.specs.Plays.{trace_of}
use Rattle.trace_pool.specs.declared.parts.View.{View}
use Rattle.trace_pool.specs.Sits.{HintsFit, Amid, finished_view, finished_now}
use Rattle.pool_core.specs.Tree.{children}
use Rattle.pool_core.specs.declared.model.Stage.TheVariants as stage
use Rattle.trace_pool.specs.declared.parts.Content.TheVariants.{Done}
use Rattle.trace_pool.proofs.Finish.{begins, next_fits, goes_on, all_shown, nil_of}
use Rattle.trace_pool.proofs.Steps.{finishes_after}
use Rattle.trace_pool.proofs.pool.Seat.finish.Goals as goal

pub loop-child-init : goal.loop-child-init
loop-child-init g c =
    let same = c.args.self.now.same in
    let t = ap trace_of c.in-Trace.is in
    begins (over g.W.Work.parents) (over_fact g.W.Work.is_hint) _ _ _ c.in-Trace.trace c.args.self.now.stage c.args.self.now.seat.me c.into_iter-child-iterator.result.rest.items c.requires.sits same
    (c.requires.trace ∙ ap (λ x. stage.Trace x 0) t)
    (subst (λ (l : List _). HintsFit (g.W.Work.is_hint c.args.pool.now.table.shared.key) (children (g.W.Work.parents c.args.pool.now.table.shared.key) c.in-Trace.trace) l) (sym c.into_iter-child-iterator.ensures.into_iter_gives.0)
    (subst (λ x. HintsFit (g.W.Work.is_hint c.args.pool.now.table.shared.key) (children (g.W.Work.parents c.args.pool.now.table.shared.key) x) c.args.hints.items) t c.requires.fits))

pub put_child-requires-clause-next : goal.put_child-requires-clause-next
put_child-requires-clause-next g c κs within =
    let a = subst (Amid {D = g.row.W-Done.Denot} (over g.W.Work.parents) (over_fact g.W.Work.is_hint) _ _ _ _ _ _ _) c.in-Some.ensures.steps.0 c.loop-child.invariant in
    (next_fits (over g.W.Work.parents) (over_fact g.W.Work.is_hint) _ _ _ _ _ _ _ _ _ _ a).0

pub put_child-requires-clause-fits : goal.put_child-requires-clause-fits
put_child-requires-clause-fits g c κs within =
    let a = subst (Amid {D = g.row.W-Done.Denot} (over g.W.Work.parents) (over_fact g.W.Work.is_hint) _ _ _ _ _ _ _) c.in-Some.ensures.steps.0 c.loop-child.invariant in
    (next_fits (over g.W.Work.parents) (over_fact g.W.Work.is_hint) _ _ _ _ _ _ _ _ _ _ a).1

pub loop-child-preserved : goal.loop-child-preserved
loop-child-preserved g c =
    let a = subst (Amid {D = g.row.W-Done.Denot} (over g.W.Work.parents) (over_fact g.W.Work.is_hint) _ _ _ _ _ _ _) c.in-Some.ensures.steps.0 c.loop-child.invariant in
    let p = c.put_child.ensures in
    goes_on (over g.W.Work.parents) (over_fact g.W.Work.is_hint) _ _ _ _ _ _ _ _ _ _ a _ c.put_child.new.self.stage c.put_child.new.self.seat.me p.seen.0 p.sits p.stage p.seen.1

pub fetch_add-requires : goal.fetch_add-requires
fetch_add-requires g c =
    let inv = c.loop-child.invariant in
    let none = nil_of c.loop-child.child-iterator.rest.items c.loop-child.child-iterator.rest.len (search rules) c.in-None.ensures.steps.0 in
    let before = c.args.self.now.seat.me.0 in
    let key = c.args.pool.now.table.shared.key in
    let same = c.requires.sits.same_work in
    let wide = c.args.pool.now.sized in
    let fit = subst (λ x. g.W.Work.is_final key x c.args.done) (ap trace_of c.in-Trace.is) c.requires.result in (
      c.exchange.ensures.0 ∙ inv.sits.same_table,
      omega arith,
      finishes_after (over g.W.Work.parents) (over_fact g.W.Work.is_hint) (over_fact g.W.Work.is_final) _ _ c.exchange.new.seat.me before c.in-Trace.trace inv.places c.args.done (rest c.loop-child.self.seat.me.1)
          (c.exchange.ensures.3 ∙ (λ i. (inv.here i, (c.in-Trace.trace, Some (Done c.args.done)) ∷ rest c.loop-child.self.seat.me.1)))
          (subst (λ (w : Option g.row.W.Denot). length inv.places ≡ length (children (over g.W.Work.parents w) c.in-Trace.trace)) (sym same) (all_shown (over g.W.Work.parents) (over_fact g.W.Work.is_hint) _ _ _ _ _ _ _ _ inv none))
          (subst (λ (w : Option g.row.W.Denot). over_fact g.W.Work.is_final w c.in-Trace.trace c.args.done) (sym same) fit)
          _
          same,
    )

pub returns-clause-seen : goal.returns-clause-seen
returns-clause-seen g c =
    let inv = c.loop-child.invariant in
    let none = nil_of c.loop-child.child-iterator.rest.items c.loop-child.child-iterator.rest.len (search rules) c.in-None.ensures.steps.0 in
    let key = c.args.pool.now.table.shared.key in
    let before = c.args.self.now.seat.me.0 in (
      inv.places,
      ap (λ m. m.0) c.fetch_add.ensures.2 ∙ (ap (λ (v : View (Option g.row.W.Denot)). finished_now v) (ap (λ m. m.0) c.exchange.ensures.3 ∙ inv.here) ∙ ap (λ x. finished_view (g.W.Work.parents key) before x inv.places) (sym (ap trace_of c.in-Trace.is))),
      all_shown (over g.W.Work.parents) (over_fact g.W.Work.is_hint) _ _ _ _ _ _ _ _ inv none ∙ ap (λ x. length (children (g.W.Work.parents key) x)) (sym (ap trace_of c.in-Trace.is)),
    )
