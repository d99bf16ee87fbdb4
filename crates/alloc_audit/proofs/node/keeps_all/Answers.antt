use Rattle.std.proofs.Common.{ap, ◌∙◌}
use Rattle.std.specs.Prelude.{◌&&◌}
use Rattle.std.specs.List.{list_all}
use Rattle.block_runs.specs.Blocks.{end_uses, successors}
use Rattle.block_runs.specs.Live.{has}
use Rattle.alloc_audit.specs.Parts.{placed_by, have_live}
use Rattle.alloc_audit.proofs.node.keeps_all.Goals as goal

pub returns : goal.returns
returns c = λ registers slots.
    let node = c.args.at.now.node.now in
    let regs = c.args.end.now.regs in
    c.both_kept.ensures
    ∙ ap (λ f. list_all (placed_by regs f) (end_uses node.end) && have_live c.args.at.now.values c.args.at.now.live.now (placed_by regs f) (successors node.end)) (c.in_ok-homes.ensures ∙ ap has c.as_slice.ensures)
