use Rattle.ob_scan.specs.Tables.{is_same}
use Rattle.ob_scan.proofs.Words.{of_other_lengths}
use Rattle.ob_scan.proofs.reserved.is_word.Goals as goal

pub returns-then-word-other : goal.returns-then-word-other
unfolding is_same
returns-then-word-other c = c.eq.ensures

pub returns-else-word-other : goal.returns-else-word-other
returns-else-word-other c = of_other_lengths c.args.word.now c.args.other.now c.if-word-other.false
