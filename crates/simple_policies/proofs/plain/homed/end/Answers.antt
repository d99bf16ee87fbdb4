use Rattle.std.proofs.Common.{ℕ, List, ◌≡◌, ◌∙◌, ap, subst}
use Rattle.std.specs.Prelude.{IfOk}
use Rattle.block_runs.specs.Blocks.{end_uses, successors}
use Rattle.loc_state.specs.Homed.{all_inserted}
use Rattle.simple_policies.specs.plain.Plain.{in_homes}
use Rattle.simple_policies.specs.plain.Marks.{live_into_each}
use Rattle.simple_policies.proofs.plain.Marking.{picks_end}
use Rattle.simple_policies.proofs.plain.homed.end.Goals as goal

pub returns : goal.returns
returns c =
    let t = c.args.t.now in
    let n = t.flow.now.values in
    let tos = successors c.args.end.now in
    subst (λ (homed : List ℕ). IfOk c.in_homes.result (λ places. places ≡ in_homes t.regs homed))
    (picks_end n t.live.now tos (end_uses c.args.end.now) c.mark_followers.new.marks c.mark_read.new.marks
    (c.in_ok-mark_followers.ensures ∙ ap (all_inserted (live_into_each n t.live.now tos)) c.clear.ensures)
    c.in_ok-mark_read.ensures)
    c.in_homes.ensures
