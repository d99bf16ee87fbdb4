use Rattle.std.proofs.Common.{ℕ, Bool, ◌∙◌, ◌+◌, sym, ap, drop, filter, get_or, refl}
use Rattle.lir_core.specs.Rows.{has_bit}
use Rattle.loc_state.specs.Homed.{all_inserted}
use Rattle.bottom_up.specs.Bottom.{made_along}
use Rattle.bottom_up.proofs.Steps.{made_step}
use Rattle.bottom_up.proofs.homing.Into.made_along.Goals as goal

pub loop-number-preserved : goal.loop-number-preserved
loop-number-preserved c =
    let i = c.loop-number.number-index in
    let nodes = c.args.flow.now.nodes in
    let ns = c.args.nodes.now in
    let p : ℕ → Bool = has_bit c.args.self.now.live.now c.args.self.now.head in
    ap (all_inserted (filter p (made_along nodes (drop (i + 1) ns)))) c.in_ok-add_number.ensures
    ∙ sym (made_step p nodes ns i (get_or ns i 0) c.loop-number.made c.loop-number-test.true refl) ∙ c.loop-number.invariant
