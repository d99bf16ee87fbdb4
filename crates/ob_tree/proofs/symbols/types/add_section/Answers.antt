use Rattle.std.proofs.Common.{ap, sym}
use Rattle.ob_syntax.specs.Leaves.{each}
use Rattle.ob_syntax.specs.NameText.{next_ident_text}
use Rattle.ob_tree.proofs.Added.{adds_then, adds_as}
use Rattle.ob_tree.proofs.symbols.types.add_section.Goals as goal

pub returns : goal.returns
returns c = adds_then (c.in_ok-put_maybe.ensures _) (adds_then (c.in_ok-put.ensures _) (adds_then (adds_as (ap (each next_ident_text) (sym c.deref.ensures.value)) c.in_ok-add_each_next_ident.ensures) (adds_then (c.in_ok-put-2.ensures _) (adds_then c.in_ok-add_open_array.ensures c.in_ok-add_qualident.ensures))))
