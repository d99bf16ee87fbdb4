use Rattle.std.proofs.Common.{ap}
use Rattle.ob_syntax.specs.Leaves.{optional}
use Rattle.ob_syntax.specs.TypeText.{formals_text}
use Rattle.ob_tree.proofs.Added.{adds_then, adds_as}
use Rattle.ob_tree.proofs.symbols.types.add_formals.Goals as goal

pub returns-in_ok-add_result_type-in-Some : goal.returns-in_ok-add_result_type-in-Some
returns-in_ok-add_result_type-in-Some c = adds_as (ap (optional formals_text) c.in-Some.is) (adds_then (c.in_ok-put-in-Some.ensures _) (adds_then c.in_ok-add_sections-in-Some.ensures (adds_then (c.in_ok-put-in-Some-2.ensures _) c.in_ok-add_result_type-in-Some.ensures)))
