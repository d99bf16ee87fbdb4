use Rattle.std.proofs.Common.{◌≡◌, ◌+◌, ◌∷◌, [], length, sym, ap, ◌∙◌, arith, length-append}
use Rattle.std.specs.Prelude.{slice_get}
use Rattle.pool_core.specs.Tree.{children}
use Rattle.pool_core.proofs.Moves.{nothing}
use Rattle.trace_pool.proofs.ChildHints.{fits_more, fits_all, there, parent_of_child, within}
use Rattle.trace_pool.proofs.hints.hints_of.Goals as goal
use Rattle.pool_core.proofs.Hands.{none_past as past}

pub hint-requires : goal.hint-requires
hint-requires g c =
    let P = g.W.Work.parents c.args.work.now in
    (c.args.trace, parent_of_child P c.args.trace (length c.loop-next.hints.items) c.in-Some.child (sym c.loop-next.invariant.next_is ∙ c.in-Some.is), c.requires.result)

pub next_sibling-next-requires : goal.next_sibling-next-requires
next_sibling-next-requires g c =
    let P = g.W.Work.parents c.args.work.now in
    let at = parent_of_child P c.args.trace (length c.loop-next.hints.items) c.in-Some.child (sym c.loop-next.invariant.next_is ∙ c.in-Some.is) in
    omega (arith, within P c.in-Some.child _ at, ap length c.requires.index)

pub loop-next-smaller : goal.loop-next-smaller
loop-next-smaller g c =
    let P = g.W.Work.parents c.args.work.now in
    let k = length c.loop-next.hints.items in
    let at = there (children P c.args.trace) k c.in-Some.child (sym c.loop-next.invariant.next_is ∙ c.in-Some.is) in
    let long = ap length c.in_ok-push.ensures.items in
    omega (arith, at.1, long, length-append c.loop-next.hints.items ((c.in-Some.child, c.in_ok-hint.hint) ∷ []))

pub loop-next-preserved : goal.loop-next-preserved
loop-next-preserved g c =
    let P = g.W.Work.parents c.args.work.now in
    let t = c.args.trace in
    let cs = children P t in
    let k = length c.loop-next.hints.items in
    let at = sym c.loop-next.invariant.next_is ∙ c.in-Some.is in
    let long : length c.push.new.self.items ≡ k + 1 = omega (arith, ap length c.in_ok-push.ensures.items, length-append c.loop-next.hints.items ((c.in-Some.child, c.in_ok-hint.hint) ∷ [])) in
    record {
      within = omega (arith, (there cs k c.in-Some.child at).1);
      fits = fits_more (g.W.Work.is_hint c.args.work.now) cs c.loop-next.hints.items c.push.new.self.items c.in-Some.child c.in_ok-hint.hint c.in_ok-push.ensures.items long c.loop-next.invariant.fits at c.in_ok-hint.ensures;
      next_is = c.next_sibling-next.ensures t k (ap (λ l. slice_get (children l t) k) c.requires.index ∙ at) ∙ (ap (λ l. slice_get (children l t) (k + 1)) c.requires.index ∙ ap (slice_get cs) (sym long));
    }

pub returns : goal.returns
returns g c =
    let P = g.W.Work.parents c.args.work.now in
    let cs = children P c.args.trace in
    let k = length c.loop-next.hints.items in
    fits_all (g.W.Work.is_hint c.args.work.now) cs c.loop-next.hints.items c.loop-next.invariant.fits (past cs k (sym c.loop-next.invariant.next_is ∙ nothing c.loop-next.next c.in_default.not-Some))
