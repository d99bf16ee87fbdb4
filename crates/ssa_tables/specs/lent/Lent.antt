-- Whose addresses are made by parts of the tree that stand in lists.
use Rattle.std.specs.Prelude.{List, [], ◌∷◌, ◌||◌}
use Rattle.std.specs.List.{list_any}
use Rattle.ob_types.specs.declared.tree.Base.{Base}
use Rattle.ob_types.specs.declared.tree.Link.{Link}
use Rattle.ob_types.specs.declared.tree.Selector.{Selector}
use Rattle.ob_types.specs.declared.tree.Argument.{Argument}
use Rattle.ob_types.specs.declared.statements.Branch.{Branch}
use Rattle.ob_types.specs.declared.statements.CasePart.{CasePart}
use Rattle.ob_types.specs.declared.statements.TypePart.{TypePart}
use Rattle.ob_types.specs.declared.statements.Stmt.{Stmt}
use Rattle.ssa_lowered.specs.Pieces.{Mask}
use Rattle.ssa_lowered.specs.Variables.{none, origin, lent, lent_link, lent_by_first, lent_selector, lent_as, lent_by}

abbrev pub lent_by_links : List Link → Mask
lent_by_links ks x = list_any (λ k. lent_link k x) ks

-- by the indices of selectors
abbrev pub lent_by_selectors : List Selector → Mask
lent_by_selectors ss x = list_any (λ s. lent_selector s x) ss

-- the variable of which the first selector names a part
abbrev pub lent_at_first : Base → List Selector → Mask
lent_at_first at [] = none
lent_at_first at (s ∷ more) = lent_by_first (origin at) s

abbrev pub lent_by_part : Base → List Selector → Mask
lent_by_part at ss x = lent_at_first at ss x || lent_by_selectors ss x

abbrev pub lent_by_arguments : List Argument → Mask
lent_by_arguments xs x = list_any (λ a. lent_as a x) xs

abbrev pub lent_by_statements : List Stmt → Mask
lent_by_statements ss x = list_any (λ s. lent_by s x) ss

abbrev pub lent_by_parts : List Branch → Mask
lent_by_parts ps x = list_any (λ part. lent part.condition.form x || lent_by_statements part.body.items x) ps

abbrev pub lent_by_cases : List CasePart → Mask
lent_by_cases ps x = list_any (λ part. lent_by_statements part.body.items x) ps

abbrev pub lent_by_types : List TypePart → Mask
lent_by_types ps x = list_any (λ part. lent_by_statements part.body.items x) ps
