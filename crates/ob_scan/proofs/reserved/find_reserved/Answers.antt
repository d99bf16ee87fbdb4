use Rattle.std.proofs.Common.{◌∙◌}
use Rattle.ob_scan.proofs.Words.{with_its_first}
use Rattle.ob_scan.proofs.reserved.find_reserved.Goals as goal

pub returns : goal.returns
returns c = c.find_with.ensures ∙ with_its_first c.args.word.now c.requires
