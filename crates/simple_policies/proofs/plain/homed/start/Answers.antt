use Rattle.std.proofs.Common.{ℕ, List, ◌≡◌, ◌∙◌, ap, subst}
use Rattle.std.specs.Prelude.{IfOk}
use Rattle.lir_core.specs.Rows.{live_into}
use Rattle.loc_state.specs.Homed.{all_inserted}
use Rattle.simple_policies.specs.plain.Plain.{in_homes}
use Rattle.simple_policies.proofs.plain.Marking.{picks_start}
use Rattle.simple_policies.proofs.plain.homed.start.Goals as goal

pub returns : goal.returns
returns c =
    let t = c.args.t.now in
    let n = t.flow.now.values in
    let live = c.insert_live.new.self in
    subst (λ (homed : List ℕ). IfOk c.in_homes.result (λ places. places ≡ in_homes t.regs homed))
    (picks_start n t.live.now c.args.number c.args.node.now.params live c.insert_all.new.self
    (c.in_ok-insert_live.ensures ∙ ap (all_inserted (live_into n t.live.now c.args.number)) c.clear.ensures)
    (c.in_ok-insert_all.ensures ∙ ap (λ (values : List ℕ). all_inserted values live) c.as_slice.ensures))
    c.in_homes.ensures
