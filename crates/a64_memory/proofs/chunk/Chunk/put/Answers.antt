use Rattle.std.proofs.Common.{◌≡◌, length, sym, ap, ◌∙◌}
use Rattle.std.proofs.lemmas.List.{with_items_is}
use Rattle.a64_memory.specs.Bytes.{splice}
use Rattle.a64_memory.specs.Chunks.{padded}
use Rattle.a64_memory.proofs.Slabs.{length-splice}
use Rattle.a64_memory.proofs.Padding.{padded-splice}
use Rattle.a64_memory.proofs.chunk.Chunk.put.Goals as goal

pub returns : goal.returns
returns c =
    let at = c.args.at in
    let bytes = c.args.bytes.now in
    let filled = c.fill.new.bytes in
    let new = c.overwrite.ensures ∙ ap (λ l. splice l at bytes) c.deref_mut.ensures.value in
    let size : length c.overwrite.new.bytes ≡ filled.len = ap length new ∙ length-splice filled.items at bytes c.fill.ensures.filled ∙ sym filled.ok.0 in
    ap (padded 1048576) (with_items_is filled c.overwrite.new.bytes size ∙ new)
    ∙ padded-splice 1048576 filled.items at bytes c.fill.ensures.filled
    ∙ ap (λ l. splice l at bytes) (c.fill.ensures.same ∙ c.self.view_is)
