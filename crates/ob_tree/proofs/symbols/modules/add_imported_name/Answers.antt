use Rattle.std.proofs.Common.{ap}
use Rattle.ob_syntax.specs.Leaves.{optional}
use Rattle.ob_syntax.specs.ModuleText.{imported_name_text}
use Rattle.ob_tree.proofs.Added.{adds_then, adds_as}
use Rattle.ob_tree.proofs.symbols.modules.add_imported_name.Goals as goal

pub returns-in_ok-put-in-Some-2 : goal.returns-in_ok-put-in-Some-2
returns-in_ok-put-in-Some-2 c = adds_as (ap (optional imported_name_text) c.in-Some.is) (adds_then (c.in_ok-put-in-Some.ensures _) (c.in_ok-put-in-Some-2.ensures _))
