use Rattle.std.proofs.Common.{◌≡◌, ◌<◌, ℕ, List, get_or, length, sym, refl, ap, ◌∙◌, arith}
use Rattle.std.specs.Prelude.{Option, None, Some}
use Rattle.std.proofs.lemmas.Bool.{false≢true}
use mathlib.Core.Logic.{dite}
use native.Mathlib.Decide.{ℕ_discrete, dec_lt}
use lib.ListN.{get_elem?}
use mathlib.Core.Option.{some}
use Rattle.pool_core.proofs.Sums.{at_index, get_or_at, get_or_past}
use Rattle.pool_core.proofs.children.is_tree.Goals.{in-Some+else-parent-trace, in_default}
use Rattle.pool_core.proofs.children.is_tree.Goals as goal

pub returns-then-parent-trace : goal.returns-then-parent-trace
returns-then-parent-trace c = (
  (λ no. absurd (false≢true no)),
  (λ tree. absurd (omega (arith, tree c.loop-trace.trace c.in-Some.parent (at_index c.args.parents.now c.loop-trace.trace None c.loop-trace-test.true ∙ ap some c.in-Some.is), c.if-parent-trace.true))),
)

pub loop-trace-preserved : goal.loop-trace-preserved
loop-trace-preserved c t p lt at =
    dite (ℕ_discrete t c.loop-trace.trace)
    (λ last. let read : get_or c.args.parents.now c.loop-trace.trace None ≡ Some p = ap (λ k. get_or c.args.parents.now k None) (sym last) ∙ get_or_at c.args.parents.now t (Some p) None at in
    elim c.match-parents-trace.branch [
      | in-Some+else-parent-trace w ↦ let same : Some w.in-Some.parent ≡ Some p = sym w.in-Some.is ∙ read in let is : w.in-Some.parent ≡ p = cc in omega (arith, w.if-parent-trace.false)
      | in_default w ↦ absurd (w.in_default.not-Some p read)
    ])
    (λ earlier. c.loop-trace.invariant t p (omega arith) at)

in_list : (P : List (Option ℕ)) (t p : ℕ) → get_elem? P t ≡ some (Some p) → t < length P
in_list P t p at = dite (dec_lt t (length P)) (λ lt. lt) (λ ge. absurd (some_not_none (sym (get_or_at P t (Some p) None at) ∙ get_or_past P t None (omega arith))))
  where
    some_not_none : {q : ℕ} → Some q ≡ None → ⊥
    some_not_none e = cc

pub returns : goal.returns
returns c = (
  (λ yes t p at. c.loop-trace.invariant t p (omega (arith, in_list c.args.parents.now t p at, c.loop-trace.auto.trace-end, c.loop-trace-test.false)) at),
  (λ tree. refl),
)
