use Rattle.std.proofs.Common.{◌+◌, ◌∷◌, ◌++◌, [], List, ℕ, sym, ap, ◌∙◌}
use Rattle.std.specs.Prelude.{Option, None}
use mathlib.Core.Option.{some}
use Rattle.pool_core.proofs.Sums.{at_index}
use Rattle.pool_core.proofs.Roots.{roots_more_none, roots_more_some, no_roots}
use Rattle.pool_core.proofs.cells.root_cells.Goals.{in-None+in_ok-push-in-None, in-Some}
use Rattle.pool_core.proofs.cells.root_cells.Goals as goal

pub loop-trace-init : goal.loop-trace-init
loop-trace-init c = c.new-cells.ensures.items ∙ sym no_roots

pub loop-trace-preserved : goal.loop-trace-preserved
loop-trace-preserved c =
    let P = c.args.parents.now in
    let t = c.loop-trace.trace in
    let at = at_index P t None c.loop-trace-test.true in
    elim c.match-parents-trace.branch [
      | in-None+in_ok-push-in-None w ↦ ap (λ v. v.items) w.cells-is ∙ (w.in_ok-push-in-None.ensures.items ∙ (ap (λ (l : List ℕ). l ++ (t + 1) ∷ []) c.loop-trace.invariant
          ∙ sym (roots_more_none P t (at ∙ ap (λ (o : Option ℕ). some o) w.in-None.is))))
      | in-Some w ↦ ap (λ v. v.items) w.cells-is ∙ (c.loop-trace.invariant ∙ sym (roots_more_some P t _ (at ∙ ap (λ (o : Option ℕ). some o) w.in-Some.is)))
    ]
