use Rattle.std.proofs.Common.{◌∙◌}
use Rattle.a64_memory.specs.Chunks.{joined}
use Rattle.a64_memory.proofs.Joining.{number_of_bytes}
use Rattle.a64_memory.proofs.chunks.load8_by_bytes.Goals as goal

pub returns : goal.returns
returns c =
    c.from_le_bytes.ensures
    ∙ number_of_bytes (joined c.args.chunks.now) c.args.at _ _ _ _ _ _ _ _ c.byte_in.ensures c.byte_in-2.ensures c.byte_in-3.ensures c.byte_in-4.ensures c.byte_in-5.ensures c.byte_in-6.ensures c.byte_in-7.ensures c.byte_in-8.ensures
