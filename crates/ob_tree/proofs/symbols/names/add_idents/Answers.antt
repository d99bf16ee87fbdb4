use Rattle.std.proofs.Common.{ap, sym}
use Rattle.ob_syntax.specs.Leaves.{each}
use Rattle.ob_syntax.specs.NameText.{next_identdef_text}
use Rattle.ob_tree.proofs.Added.{adds_then, adds_as}
use Rattle.ob_tree.proofs.symbols.names.add_idents.Goals as goal

pub returns : goal.returns
returns c = adds_then c.in_ok-add_identdef.ensures (adds_as (ap (each next_identdef_text) (sym c.deref.ensures.value)) c.in_ok-add_each_next_identdef.ensures)
