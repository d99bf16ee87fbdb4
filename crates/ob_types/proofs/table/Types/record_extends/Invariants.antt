use Rattle.std.proofs.Common.{◌≡◌}
use Rattle.ob_types.specs.Layout.{extends_within, extends}
use Rattle.ob_types.proofs.table.Types.record_extends.Given as goal

abbrev pub invariant-loop-at : goal.invariant-loop-at
invariant-loop-at l = extends_within l.self l.left l.at l.base ≡ extends l.self l.extension l.base

abbrev pub decreases-loop-at : goal.decreases-loop-at
decreases-loop-at l = l.left
