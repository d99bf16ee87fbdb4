use Rattle.std.proofs.Common.{codes, ◌++◌, ap, ◌∙◌, append_assoc}
use Rattle.trc_cli.specs.Commands.{counts_text}
use Rattle.trc_cli.proofs.bulk.summary.Goals as goal

pub returns : goal.returns
returns c =
    c.in_ok-extend_from_slice-2.ensures.items
    ∙ ap (λ xs. xs ++ c.args.written.now) (c.in_ok-extend_from_slice.ensures.items ∙ ap (λ xs. xs ++ codes "output ") c.in_ok-lines.ensures)
    ∙ append_assoc (counts_text c.args.counts) (codes "output ") c.args.written.now
