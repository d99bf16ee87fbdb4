use Rattle.std.proofs.Common.{sym, ◌∙◌}
use Rattle.ob_types.proofs.Counting.{extends_on}
use Rattle.ob_types.proofs.table.Types.record_extends.Goals as goal

pub loop-at-preserved : goal.loop-at-preserved
loop-at-preserved c = extends_on c.args.self.now c.loop-at.left c.loop-at.at c.in-Some.next c.args.base c.loop-at-test.true c.if-left-eq0.false (sym c.in-Some.ensures) ∙ c.loop-at.invariant
