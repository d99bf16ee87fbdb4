use Rattle.std.proofs.Common.{◌≡◌, ◌+◌, ◌<◌, suc, drop, length, ap, ap₂, ◌∙◌, sym, arith}
use Rattle.std.proofs.lemmas.List.{drop_more}
use Rattle.ssa_exprs.specs.Changes.{numbered_from}
use Rattle.ssa_exprs.proofs.making.renumber.Goals as goal

pub loop-i-preserved : goal.loop-i-preserved
loop-i-preserved c =
    let lt : c.loop-i.i < length c.args.vars.now = omega arith in
    let next : c.args.first + (c.loop-i.i + 1) ≡ suc (c.args.first + c.loop-i.i) = omega arith in
    ap₂ (λ k n. numbered_from k (drop (c.loop-i.i + 1) c.args.vars.now) n) c.in_ok-change.ensures next
    ∙ sym (ap (λ l. numbered_from (record { env = c.loop-i.env.items; log = c.loop-i.log.items }) l (c.args.first + c.loop-i.i)) (drop_more c.args.vars.now c.loop-i.i 0 lt))
    ∙ c.loop-i.invariant
