use Rattle.std.proofs.Common.{ap₂}
use Rattle.ob_judge.specs.Image as I
use Rattle.judged_tree.specs.Plain.{plain_expr}
use Rattle.check_operands.proofs.trees.values.compare.Goals as goal

pub returns : goal.returns
returns c = λ t texts. ap₂ (λ x y. I.Compare c.args.relation (plain_expr t texts x) (plain_expr t texts y)) c.in_ok-left.ensures.ok c.in_ok-right.ensures.ok
