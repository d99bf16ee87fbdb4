use Rattle.std.proofs.Common.{[], sym, ap, ◌∙◌, map}
use Rattle.block_runs.specs.Blocks.{end_uses}
use Rattle.block_runs.specs.Valid.{uses_of, block_reads}
use Rattle.lir_core.specs.Flows.{operation_of, code_node}
use Rattle.loc_state.specs.Homed.{all_inserted}
use Rattle.alloc_audit.proofs.Placing.{set_is}
use Rattle.loc_state.proofs.Homing.{inserted_append}
use Rattle.alloc_audit.proofs.places.reads_of.Goals as goal

pub returns : goal.returns
returns c =
    let uses = uses_of (map operation_of c.args.node.now.lirs) in
    let ends = end_uses c.args.node.now.end in
    let first = c.in_ok-add_uses.ensures ∙ ap (λ xs. all_inserted (uses_of (map operation_of xs)) c.new-reads.result) c.as_slice.ensures ∙ ap (all_inserted uses) c.new-reads.ensures in
    set_is (block_reads (code_node c.args.node.now)) c.add_end.new.reads (c.in_ok-add_end.ensures ∙ ap (all_inserted ends) first ∙ sym (inserted_append uses ends []))
