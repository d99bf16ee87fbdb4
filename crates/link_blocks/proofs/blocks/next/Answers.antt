use Rattle.link_blocks.proofs.Flat.{drop_one}
use Rattle.link_blocks.proofs.blocks.next.Goals as goal

pub returns-then-at-lines : goal.returns-then-at-lines
returns-then-at-lines c = drop_one c.args.lines.now c.args.at
