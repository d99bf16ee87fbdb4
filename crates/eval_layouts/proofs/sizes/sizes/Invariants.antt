use Rattle.std.proofs.Common.{◌≡◌, length}
use Rattle.ob_types.specs.Layout.{cells}
use Rattle.eval_layouts.specs.Tables.{TableOf}
use Rattle.eval_layouts.proofs.sizes.sizes.Given as goal

abbrev pub invariant-loop-k : goal.invariant-loop-k
invariant-loop-k l = (length l.list.items ≡ l.k) × TableOf (cells l.types) l.list.items
