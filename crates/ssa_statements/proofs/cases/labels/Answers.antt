use Rattle.std.proofs.Common.{◌≡◌, suc, ◌+◌, ◌++◌, [], ◌∷◌, sym, ap, ap₂, ◌∙◌, arith}
use Rattle.ssa_lowered.specs.Pieces.{numbers}
use Rattle.ssa_exprs.specs.Making.{View, asked}
use Rattle.ssa_exprs.proofs.Numbered.{numbers_more}
use Rattle.ssa_statements.proofs.cases.labels.Goals as goal

pub loop-i-preserved : goal.loop-i-preserved
loop-i-preserved c =
    let first = c.args.b.now.labels in
    let next : suc c.loop-i.i ≡ c.loop-i.i + 1 = omega arith in
    let more : suc (first + c.loop-i.i) ≡ first + (c.loop-i.i + 1) = omega arith in
    let label_is : c.in_ok-label.label ≡ first + c.loop-i.i = c.in_ok-label.ensures.number ∙ ap (λ (v : View). v.labels) c.loop-i.invariant.0 in (
      c.in_ok-label.ensures.given ∙ ap asked c.loop-i.invariant.0 ∙ ap (λ n. record c.args.b.now { labels = n }) more,
      c.in_ok-push.ensures.items ∙ ap₂ (λ l k. l ++ k ∷ []) c.loop-i.invariant.1 label_is ∙ sym (numbers_more first c.loop-i.i) ∙ ap (numbers first) next,
    )
