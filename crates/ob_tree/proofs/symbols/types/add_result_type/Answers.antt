use Rattle.std.proofs.Common.{ap}
use Rattle.ob_syntax.specs.Leaves.{optional}
use Rattle.ob_syntax.specs.TypeText.{result_type_text}
use Rattle.ob_tree.proofs.Added.{adds_then, adds_as}
use Rattle.ob_tree.proofs.symbols.types.add_result_type.Goals as goal

pub returns-in_ok-add_qualident-in-Some : goal.returns-in_ok-add_qualident-in-Some
returns-in_ok-add_qualident-in-Some c = adds_as (ap (optional result_type_text) c.in-Some.is) (adds_then (c.in_ok-put-in-Some.ensures _) c.in_ok-add_qualident-in-Some.ensures)
