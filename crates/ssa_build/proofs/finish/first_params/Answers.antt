use Rattle.std.proofs.Common.{◌≡◌, ◌+◌, ◌++◌, suc, [], ◌∷◌, ap, ◌∙◌, sym, arith}
use Rattle.ssa_lowered.specs.Pieces.{numbers}
use Rattle.ssa_exprs.proofs.Numbered.{numbers_more}
use Rattle.ssa_build.proofs.finish.first_params.Goals as goal

pub loop-i-preserved : goal.loop-i-preserved
loop-i-preserved c =
    let next : suc c.loop-i.i ≡ c.loop-i.i + 1 = omega arith in
    let none : c.loop-i.i ≡ 0 + c.loop-i.i = omega arith in
    c.in_ok-push.ensures.ok ∙ ap (λ l. l ++ (c.loop-i.i ∷ [])) c.loop-i.invariant ∙ ap (λ k. numbers 0 c.loop-i.i ++ (k ∷ [])) none ∙ sym (numbers_more 0 c.loop-i.i) ∙ ap (numbers 0) next
