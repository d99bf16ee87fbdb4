use Rattle.std.proofs.Common.{◌≤◌, length, subst, arith}
use Rattle.ssa_tables.proofs.Extents.{extents_all}
use Rattle.ssa_tables.proofs.sizes.type_extents.Goals as goal

pub returns : goal.returns
returns c =
    let a = c.loop-k.invariant.0 in
    let b = c.loop-k-test.false in
    extents_all c.args.types.now c.requires c.loop-k.list (subst (λ ks. length ks ≤ length c.loop-k.list) c.kinds-count.ensures (omega (arith, a, b))) c.loop-k.invariant.1
