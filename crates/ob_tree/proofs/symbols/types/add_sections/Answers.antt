use Rattle.std.proofs.Common.{ap, sym}
use Rattle.ob_syntax.specs.Leaves.{optional, each}
use Rattle.ob_syntax.specs.TypeText.{sections_text, next_section_text}
use Rattle.ob_tree.proofs.Added.{adds_then, adds_as}
use Rattle.ob_tree.proofs.symbols.types.add_sections.Goals as goal

pub returns-in_ok-add_each_next_section-in-Some : goal.returns-in_ok-add_each_next_section-in-Some
returns-in_ok-add_each_next_section-in-Some c = adds_as (ap (optional sections_text) c.in-Some.is) (adds_then c.in_ok-add_section-in-Some.ensures (adds_as (ap (each next_section_text) (sym c.deref.ensures.value)) c.in_ok-add_each_next_section-in-Some.ensures))
