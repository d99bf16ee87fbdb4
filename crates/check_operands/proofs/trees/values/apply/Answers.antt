use Rattle.std.proofs.Common.{ap}
use Rattle.ob_judge.specs.Image as I
use Rattle.judged_tree.specs.Plain.{plain_expr}
use Rattle.check_operands.proofs.trees.values.apply.Goals as goal

pub returns : goal.returns
returns c = λ t texts. ap (λ x. I.Apply c.args.operator (plain_expr t texts x)) c.in_ok-held.ensures.ok
