use Rattle.std.proofs.Common.{◌≡◌, ◌+◌, ◌++◌, suc, [], ◌∷◌, ap, ◌∙◌, sym, arith}
use Rattle.ssa_lowered.specs.Pieces.{numbers}
use Rattle.ssa_exprs.proofs.Numbered.{numbers_more}
use Rattle.ssa_exprs.proofs.making.numbered.Goals as goal

pub loop-i-preserved : goal.loop-i-preserved
loop-i-preserved c =
    let next : suc c.loop-i.i ≡ c.loop-i.i + 1 = omega arith in
    c.in_ok-push.ensures.ok ∙ ap (λ l. l ++ ((c.args.values + c.loop-i.i) ∷ [])) c.loop-i.invariant ∙ sym (numbers_more c.args.values c.loop-i.i) ∙ ap (numbers c.args.values) next
