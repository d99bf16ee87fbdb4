use Rattle.std.proofs.Common.{ap, ◌∙◌}
use Rattle.std.specs.Prelude.{◌&&◌}
use Rattle.std.specs.List.{list_all}
use Rattle.block_runs.specs.Live.{has}
use Rattle.lir_core.specs.Rows.{has_bit}
use Rattle.alloc_audit.specs.Nodes.{live_values}
use Rattle.alloc_audit.specs.Parts.{placed_by, has_if_wanted}
use Rattle.alloc_audit.proofs.node.has_needed.Goals as goal

pub returns : goal.returns
returns c =
    let node = c.args.at.now.node.now in
    let regs = c.args.start.now.regs in
    let rows = c.args.at.now.live.now in
    let all = live_values c.args.at.now.values (has_bit rows) c.args.at.now.number in
    c.both_have.ensures
    ∙ ap (λ f. list_all (placed_by regs f) all && list_all (has_if_wanted rows (has c.in_ok-reads.reads) node.end (placed_by regs f)) node.params) (c.in_ok-homes.ensures ∙ ap has c.as_slice.ensures)
    ∙ ap (λ g. list_all (placed_by regs (has c.args.start.now.homed)) all && list_all (has_if_wanted rows g node.end (placed_by regs (has c.args.start.now.homed))) node.params) c.in_ok-reads.ensures
