use Rattle.std.proofs.Common.{sym, ap, ◌∙◌, arith, w64}
use Rattle.std.specs.Int.{from_le_bytes}
use Rattle.a64_memory.specs.Bytes.{slab}
use Rattle.a64_memory.proofs.Padding.{slab-padded}
use Rattle.a64_memory.proofs.chunk.Chunk.filled8.Goals as goal

pub returns : goal.returns
returns c =
    c.number_at.ensures
    ∙ ap (λ l. from_le_bytes w64 (slab l c.args.at 8)) c.deref.ensures.value
    ∙ ap (from_le_bytes w64) (sym (slab-padded 1048576 c.self.inside.bytes.items c.args.at 8 (omega arith)) ∙ ap (λ l. slab l c.args.at 8) c.self.view_is)
