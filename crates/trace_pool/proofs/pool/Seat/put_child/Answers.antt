use Rattle.trace_pool.specs.Plays.{over, over_fact}
use Rattle.std.specs.declared.option.Option.{Option}
use Rattle.std.proofs.Common.{rules, arith, ◌+◌, ◌∷◌, sym, ap, ◌∙◌, subst}
use Rattle.std.specs.Prelude.{Some}
use Rattle.atomic_table.specs.Table.{rest}
use Rattle.pool_core.proofs.Trees.{children_le}
use Rattle.pool_core.specs.declared.model.Stage.{Stage}
use Rattle.trace_pool.specs.declared.parts.Content.TheVariants.{Hint}
use Rattle.trace_pool.specs.Sits.{IsNext}
use Rattle.trace_pool.proofs.Steps.{next_here, reserves, shows_after}
use Rattle.trace_pool.proofs.pool.Seat.put_child.Goals as goal

pub fetch_add-place-requires : goal.fetch_add-place-requires
fetch_add-place-requires g c =
    let me = c.args.self.now.seat.me in
    let next : IsNext (over g.W.Work.parents me.0.work) me.0.worker.stage c.args.child = subst (λ (w : Option g.row.W.Denot). IsNext (over g.W.Work.parents w) me.0.worker.stage c.args.child) (sym c.requires.sits.same_work) (subst (λ (st : Stage). IsNext (g.W.Work.parents c.args.pool.now.table.shared.key) st c.args.child) c.args.self.now.same c.requires.next) in
    let n = next_here (over g.W.Work.parents me.0.work) me.0.worker.stage c.args.child next in (
      c.requires.sits.same_table,
      search rules,
      reserves (over g.W.Work.parents) (over_fact g.W.Work.is_hint) (over_fact g.W.Work.is_final) _ _ me n.0 n.1 _ c.requires.sits.same_work,
    )

pub store-requires : goal.store-requires
store-requires g c =
    let me = c.args.self.now.seat.me in
    let next : IsNext (over g.W.Work.parents me.0.work) me.0.worker.stage c.args.child = subst (λ (w : Option g.row.W.Denot). IsNext (over g.W.Work.parents w) me.0.worker.stage c.args.child) (sym c.requires.sits.same_work) (subst (λ (st : Stage). IsNext (g.W.Work.parents c.args.pool.now.table.shared.key) st c.args.child) c.args.self.now.same c.requires.next) in
    let n = next_here (over g.W.Work.parents me.0.work) me.0.worker.stage c.args.child next in
    let told = c.fetch_add-place.ensures.2 in
    let wide = c.args.pool.now.sized in
    let fit = subst (λ (w : Option g.row.W.Denot). over_fact g.W.Work.is_hint w c.args.child c.args.hint) (sym c.requires.sits.same_work) c.requires.fits in (
      c.exchange.ensures.0 ∙ (c.fetch_add-place.ensures.0 ∙ c.requires.sits.same_table),
      omega (arith, told.1),
      shows_after (over g.W.Work.parents) (over_fact g.W.Work.is_hint) (over_fact g.W.Work.is_final) _ _ c.exchange.new.seat.me me.0 _ _ c.fetch_add-place.result c.args.hint me.1
          (c.exchange.ensures.3 ∙ (λ i. ((told.0 i).0, (n.2 i, Some (Hint c.args.hint)) ∷ rest (told.0 i).1)))
          (subst (λ x. over_fact g.W.Work.is_hint me.0.work x c.args.hint) n.2 fit)
          (c.args.child + 1)
          (ap (λ x. x + 1) n.2)
          _
          c.requires.sits.same_work,
    )

pub overflow_add-self : goal.overflow_add-self
overflow_add-self g c =
    let P = g.W.Work.parents c.args.pool.now.table.shared.key in
    let next : IsNext P (Rattle.pool_core.specs.declared.model.Stage.TheVariants.Trace c.in-Trace.trace c.in-Trace.shown) c.args.child = subst (λ (st : Stage). IsNext P st c.args.child) c.in-Trace.is c.requires.next in
    let few = c.args.pool.now.small in
    omega (arith, next.0, children_le P c.in-Trace.trace, c.requires.sits.sized)
