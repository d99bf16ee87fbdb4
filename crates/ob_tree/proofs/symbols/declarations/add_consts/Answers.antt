use Rattle.std.proofs.Common.{ap, sym}
use Rattle.ob_syntax.specs.Leaves.{optional, each}
use Rattle.ob_syntax.specs.DeclarationText.{consts_text, const_decl_text}
use Rattle.ob_tree.proofs.Added.{adds_then, adds_as}
use Rattle.ob_tree.proofs.symbols.declarations.add_consts.Goals as goal

pub returns-in_ok-add_each_const_decl-in-Some : goal.returns-in_ok-add_each_const_decl-in-Some
returns-in_ok-add_each_const_decl-in-Some c = adds_as (ap (optional consts_text) c.in-Some.is) (adds_then (c.in_ok-put-in-Some.ensures _) (adds_as (ap (each const_decl_text) (sym c.deref.ensures.value)) c.in_ok-add_each_const_decl-in-Some.ensures))
