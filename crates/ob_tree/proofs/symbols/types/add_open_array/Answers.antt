use Rattle.std.proofs.Common.{ap}
use Rattle.ob_syntax.specs.Leaves.{optional}
use Rattle.ob_syntax.specs.TypeText.{open_array_text}
use Rattle.ob_tree.proofs.Added.{adds_then, adds_as}
use Rattle.ob_tree.proofs.symbols.types.add_open_array.Goals as goal

pub returns-in_ok-put-in-Some-2 : goal.returns-in_ok-put-in-Some-2
returns-in_ok-put-in-Some-2 c = adds_as (ap (optional open_array_text) c.in-Some.is) (adds_then (c.in_ok-put-in-Some.ensures _) (c.in_ok-put-in-Some-2.ensures _))
