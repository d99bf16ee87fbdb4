use Rattle.std.proofs.Common.{◌≡◌, ◌∙◌, ap, filter, subst, IfOk}
use Rattle.block_runs.specs.Live.{has}
use Rattle.run_laws.specs.Layers.{places_from}
use Rattle.lir_core.specs.Rows.{has_bit, live_into}
use Rattle.bottom_up.specs.Bottom.{made_along}
use Rattle.bottom_up.proofs.Steps.{filter_made}
use Rattle.bottom_up.proofs.homing.homed_at.Goals as goal

pub returns : goal.returns
returns c =
    let t = c.args.t.now in
    let made = made_along t.flow.now.nodes c.args.nodes.now in
    let live = live_into t.flow.now.values t.live.now c.args.head in
    let same : filter (has c.in_ok-made.made) live ≡ filter (has made) live =
    ap (λ m. filter (has m) live) c.in_ok-made.ensures ∙ filter_made (has_bit t.live.now c.args.head) made (places_from 0 t.flow.now.values) in
    subst (λ l. IfOk c.live_and_made.result (λ homed. homed.items ≡ l)) same c.live_and_made.ensures
