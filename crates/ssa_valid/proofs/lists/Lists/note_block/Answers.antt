use Rattle.std.proofs.Common.{◌≡◌, ◌∙◌, map, sym, ap, subst}
use Rattle.std.specs.Prelude.{OnOk}
use Rattle.block_runs.specs.Blocks.{end_uses}
use Rattle.block_runs.specs.Valid.{uses_of, block_reads}
use Rattle.ssa_core.specs.Procedures.{operation_of, code_block}
use Rattle.ssa_valid.specs.Tables.{noted}
use Rattle.ssa_valid.proofs.Tables.{noted-append}
use Rattle.ssa_valid.proofs.lists.Lists.note_block.Goals as goal

-- the end's reads behind the operations'
both : (c : goal.After-note_reads) → noted c.args.number (end_uses c.args.block.now.end) c.note_operations.new.self ≡ noted c.args.number (block_reads (code_block c.args.block.now)) c.args.self.now
both c =
    let b = c.args.block.now in
    ap (noted c.args.number (end_uses b.end)) (c.in_ok-note_operations.ensures ∙ ap (λ xs. noted c.args.number (uses_of (map operation_of xs)) c.args.self.now) c.as_slice.ensures)
    ∙ sym (noted-append c.args.number (uses_of (map operation_of b.ops)) (end_uses b.end) c.args.self.now)

pub returns : goal.returns
returns c = subst (λ rows. OnOk c.note_reads.result (c.note_reads.new.self ≡ rows)) (both c) c.note_reads.ensures
