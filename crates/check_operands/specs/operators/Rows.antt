-- Operators and rows of the code, and which of the judgement's they are.
use Rattle.ob_types.specs.declared.tree.Binary.{Binary}
use Rattle.ob_judge.specs.Shapes.{Shape, Integer, Boolean, Set}
use Rattle.ob_judge.specs.Image as I
use Rattle.ob_judge.specs.Operators as J
use Rattle.check_operands.specs.declared.operators.rows.Operator.{Operator}
use Rattle.check_operands.specs.declared.operators.rows.Operator.TheVariants as TheOperator
use Rattle.check_operands.specs.declared.operators.rows.Row.{Row}
use Rattle.check_operands.specs.declared.operators.rows.Row.TheVariants as TheRow

abbrev pub operator_of : Operator → J.Operator
operator_of TheOperator.Plus = J.Plus
operator_of TheOperator.Minus = J.Minus
operator_of TheOperator.Times = J.Times
operator_of TheOperator.Slash = J.Slash
operator_of TheOperator.Div = J.Div
operator_of TheOperator.Mod = J.Mod
operator_of TheOperator.And = J.And
operator_of TheOperator.Or = J.Or

abbrev pub row_shape : Row → Shape
row_shape (TheRow.Numbers b) = Integer
row_shape (TheRow.Sets b) = Set
row_shape TheRow.Both = Boolean
row_shape TheRow.Either = Boolean

abbrev pub row_link : Row → I.Expr → I.Link
row_link (TheRow.Numbers b) y = I.Operate b y
row_link (TheRow.Sets b) y = I.Operate b y
row_link TheRow.Both y = I.And y
row_link TheRow.Either y = I.Or y

abbrev pub row_meaning : Row → J.Row
row_meaning (TheRow.Numbers b) = (Integer, J.operated b)
row_meaning (TheRow.Sets b) = (Set, J.operated b)
row_meaning TheRow.Both = (Boolean, λ x y. I.Linked x (I.And y))
row_meaning TheRow.Either = (Boolean, λ x y. I.Linked x (I.Or y))
