use Rattle.std.proofs.Common.{◌%◌, sym, ap, ◌∙◌, arith, w64}
use Rattle.std.specs.Int.{from_le_bytes}
use Rattle.a64_memory.specs.Bytes.{slab}
use Rattle.a64_memory.proofs.Joining.{slab-joined}
use Rattle.a64_memory.proofs.chunks.load8_in.Goals as goal

pub returns-in-Some : goal.returns-in-Some
returns-in-Some c =
    let chunks = c.args.chunks.now in
    let at = c.args.at in
    c.in-Some.ensures
    ∙ ap (λ l. from_le_bytes w64 (slab l (at % 1048576) 8)) c.index-chunks-at.is
    ∙ ap (from_le_bytes w64) (sym (slab-joined chunks at 8 c.index-chunks-at.result c.requires.even (omega arith) (omega arith)))
