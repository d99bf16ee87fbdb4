use Rattle.std.proofs.Common.{◌≡◌, ◌+◌, ◌*◌, ◌%◌, ◌^◌, suc, sym, ap, ◌∙◌, arith}
use Rattle.sum_tree.specs.Values.{stirred, mixed}
use Rattle.sum_tree.proofs.own.Goals as goal

pub loop-preserved : goal.loop-preserved
unfolding stirred
loop-preserved c =
    let n : c.loop.counter + 1 ≡ suc c.loop.counter = omega arith in
    ap (λ v. ((v * 6364136223846793005) % 2 ^ 64 + 1442695040888963407) % 2 ^ 64) c.loop.invariant ∙ ap (λ k. mixed k c.args.trace) (sym n)
