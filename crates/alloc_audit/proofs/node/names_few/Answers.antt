use Rattle.std.proofs.Common.{ap, ◌∙◌}
use Rattle.std.specs.Prelude.{◌&&◌}
use Rattle.std.specs.List.{list_all}
use Rattle.block_runs.specs.Live.{has}
use Rattle.lir_core.specs.Flows.{code_node}
use Rattle.lir_core.specs.Rows.{has_bit}
use Rattle.alloc_audit.specs.Nodes.{may_name}
use Rattle.alloc_audit.specs.Parts.{may_have, may_be}
use Rattle.alloc_audit.proofs.Placing.{may_have_is}
use Rattle.alloc_audit.proofs.node.names_few.Goals as goal

pub returns : goal.returns
returns c =
    let live = has_bit c.args.at.now.live.now in
    let n = c.args.at.now.number in
    let start = c.args.start.now in
    let bl = code_node c.args.at.now.node.now in
    c.both_may.ensures
    ∙ ap (λ f. list_all (may_have (live n) f) start.regs && list_all (may_be (live n) f) start.homed) (c.in_ok-params.ensures ∙ ap has c.as_slice.ensures)
    ∙ ap (λ g. list_all g start.regs && list_all (may_name live bl n) start.homed) (may_have_is live bl n)
