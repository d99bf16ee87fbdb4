use Rattle.std.proofs.Common.{◌∙◌, ◌+◌, sym, ap, filter, drop}
use Rattle.lir_core.specs.Rows.{has_bit}
use Rattle.loc_state.specs.Homed.{all_inserted}
use Rattle.linear_scan.proofs.Living.{list_step}
use Rattle.linear_scan.proofs.starting.live_homes.Goals as goal

pub loop-value-preserved : goal.loop-value-preserved
loop-value-preserved c =
    let i = c.loop-value.value-index in
    let has = has_bit c.args.head.now.live.now c.args.head.now.node in
    ap (all_inserted (filter has (drop (i + 1) c.args.homed.now))) c.in_ok-insert_live.ensures
    ∙ sym (list_step has c.args.homed.now i c.loop-value.homes c.loop-value-test.true) ∙ c.loop-value.invariant
