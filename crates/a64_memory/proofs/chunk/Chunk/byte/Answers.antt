use Rattle.std.proofs.Common.{get_or, sym, ap, ◌∙◌, arith}
use Rattle.std.proofs.lemmas.Grind.{get_or_default_zero}
use Rattle.a64_memory.proofs.Padding.{get_or-padded_in, get_or-padded_past}
use Rattle.a64_memory.proofs.chunk.Chunk.byte.Goals as goal

pub returns-then-at-len : goal.returns-then-at-len
returns-then-at-len c =
    let bytes = c.self.inside.bytes.items in
    c.index.ensures ∙ get_or_default_zero bytes c.args.at c.index.result.now (omega arith) ∙ sym (get_or-padded_in 1048576 bytes c.args.at (omega arith)) ∙ ap (λ l. get_or l c.args.at 0) c.self.view_is

pub returns-else-at-len : goal.returns-else-at-len
returns-else-at-len c = sym (get_or-padded_past 1048576 c.self.inside.bytes.items c.args.at (omega arith)) ∙ ap (λ l. get_or l c.args.at 0) c.self.view_is
