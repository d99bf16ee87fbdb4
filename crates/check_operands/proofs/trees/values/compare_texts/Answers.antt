use Rattle.std.proofs.Common.{ap₂}
use Rattle.ob_judge.specs.Image as I
use Rattle.judged_tree.specs.Plain.{plain_designator}
use Rattle.check_operands.proofs.trees.values.compare_texts.Goals as goal

pub returns : goal.returns
returns c = λ t texts. ap₂ (λ x y. I.CompareTexts c.args.relation (plain_designator t texts x) (plain_designator t texts y)) c.in_ok-left.ensures.ok c.in_ok-right.ensures.ok
