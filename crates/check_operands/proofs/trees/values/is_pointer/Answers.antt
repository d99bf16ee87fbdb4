use Rattle.std.proofs.Common.{ap}
use Rattle.ob_judge.specs.Image as I
use Rattle.judged_tree.specs.Plain.{plain_expr}
use Rattle.check_operands.proofs.trees.values.is_pointer.Goals as goal

pub returns : goal.returns
returns c = λ t texts. ap (λ x. I.IsPointer (plain_expr t texts x) c.args.tag) c.in_ok-held.ensures.ok
