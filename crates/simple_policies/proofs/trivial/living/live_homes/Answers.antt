use Rattle.std.proofs.Common.{◌∙◌, ◌+◌, ◌++◌, ap, filter, drop}
use Rattle.lir_core.specs.Rows.{has_bit}
use Rattle.simple_policies.proofs.trivial.Steps.{list_step}
use Rattle.simple_policies.proofs.trivial.living.live_homes.Goals as goal

pub loop-value-preserved : goal.loop-value-preserved
loop-value-preserved c =
    let i = c.loop-value.value-index in
    let has = has_bit c.args.live.now c.args.node in
    ap (λ t. t ++ filter has (drop (i + 1) c.args.homed.now)) c.in_ok-push_live.ensures
    ∙ list_step has c.args.homed.now i c.loop-value.values c.loop-value-test.true ∙ c.loop-value.invariant
