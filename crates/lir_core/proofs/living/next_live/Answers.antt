use Rattle.std.proofs.Common.{◌<◌, ◌^◌, arith}
use Rattle.lir_core.specs.Rows.{has_bit}
use Rattle.lir_core.proofs.Passing.{none_from, one_from, none_below}
use Rattle.lir_core.proofs.living.next_live.Goals as goal

pub returns-in-Some : goal.returns-in-Some
returns-in-Some c =
    let low = c.in-Some.ensures in
    (c.if-value-values.true, low.at_least, one_from (has_bit c.args.live.now c.args.node) c.args.from c.in-Some.value c.args.values low c.if-value-values.true)

pub returns-in_default : goal.returns-in_default
returns-in_default c = none_below (has_bit c.args.live.now c.args.node) c.args.from c.in-Some.value c.args.values c.in-Some.ensures c.if-value-values.false

pub returns-in_default-2 : goal.returns-in_default-2
returns-in_default-2 c =
    let fits : c.args.values < 2 ^ 32 = omega (arith, c.ranges.values.fits) in
    none_from (has_bit c.args.live.now c.args.node) c.args.from c.args.values (λ v l m. c.in_default.ensures v l (omega (arith, m, fits)))
