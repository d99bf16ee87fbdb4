use Rattle.std.proofs.Common.{◌%◌, get_or, sym, ap, ◌∙◌}
use Rattle.a64_memory.proofs.Joining.{get_or-joined}
use Rattle.a64_memory.proofs.chunks.byte_in.Goals as goal

pub returns : goal.returns
returns c =
    c.byte.ensures ∙ ap (λ l. get_or l (c.args.at % 1048576) 0) c.index-chunks-at.is
    ∙ sym (get_or-joined c.args.chunks.now c.args.at c.index-chunks-at.result c.requires.even c.requires.inside)
