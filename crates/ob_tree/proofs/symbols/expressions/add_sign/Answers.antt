use Rattle.std.proofs.Common.{ap}
use Rattle.ob_syntax.specs.Leaves.{optional}
use Rattle.ob_syntax.specs.ExpressionText.{sign_text}
use Rattle.ob_tree.proofs.Added.{adds_as, adds_index}
use Rattle.ob_tree.proofs.symbols.expressions.add_sign.Goals as goal

pub returns-in_ok-put-in-Some : goal.returns-in_ok-put-in-Some
returns-in_ok-put-in-Some c = adds_as (ap (optional sign_text) c.in-Some.is) (adds_index c.sign_index.ensures (c.in_ok-put-in-Some.ensures 0))
