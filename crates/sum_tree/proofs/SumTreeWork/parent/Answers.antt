use Rattle.std.proofs.Common.{sym, ap, ◌∙◌}
use mathlib.Core.Option.{some}
use Rattle.pool_core.proofs.Sums.{at_index}
use Rattle.sum_tree.proofs.SumTreeWork.parent.Goals as goal

pub returns : goal.returns
returns c = at_index c.args.self.now.parents.items c.args.trace c.index.result.now c.requires ∙ ap some (sym c.index.ensures)
