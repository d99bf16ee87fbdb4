use Rattle.std.proofs.Common.{arith}
use Rattle.ob_scan.proofs.Order.{in_order, few}
use Rattle.ob_read.proofs.reading.tree_of.Goals as goal

pub parse-requires : goal.parse-requires
parse-requires c = (let k = few (in_order c.requires.scanned) in let s = c.requires.short in omega (arith, k, s))
