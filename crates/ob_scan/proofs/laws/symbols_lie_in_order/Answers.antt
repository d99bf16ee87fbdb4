use Rattle.std.proofs.Common.{arith}
use Rattle.ob_scan.proofs.Order.{in_order, few}
use Rattle.ob_scan.proofs.laws.symbols_lie_in_order.Goals as goal

pub returns-clause-order : goal.returns-clause-order
returns-clause-order c = λ i w a e s. in_order s

pub returns-clause-few : goal.returns-clause-few
returns-clause-few c = λ i w a e s. (let k = few (in_order s) in omega arith)
