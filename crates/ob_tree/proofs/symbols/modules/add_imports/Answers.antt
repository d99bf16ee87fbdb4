use Rattle.std.proofs.Common.{ap, sym}
use Rattle.ob_syntax.specs.Leaves.{optional, each}
use Rattle.ob_syntax.specs.ModuleText.{imports_text, next_import_text}
use Rattle.ob_tree.proofs.Added.{adds_then, adds_as}
use Rattle.ob_tree.proofs.symbols.modules.add_imports.Goals as goal

pub returns-in_ok-put-in-Some-2 : goal.returns-in_ok-put-in-Some-2
returns-in_ok-put-in-Some-2 c = adds_as (ap (optional imports_text) c.in-Some.is) (adds_then (c.in_ok-put-in-Some.ensures _) (adds_then c.in_ok-add_import-in-Some.ensures (adds_then (adds_as (ap (each next_import_text) (sym c.deref.ensures.value)) c.in_ok-add_each_next_import-in-Some.ensures) (c.in_ok-put-in-Some-2.ensures _))))
