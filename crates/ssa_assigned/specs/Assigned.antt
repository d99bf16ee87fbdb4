-- Which variables statements assign, by lists.
use Rattle.std.specs.Prelude.{ℕ, false, List, [], ◌∷◌, ◌||◌, ◌==◌}
use Rattle.std.specs.List.{list_any}
use Rattle.ob_types.specs.declared.tree.Selector.{Selector}
use Rattle.ob_types.specs.declared.statements.Branch.{Branch}
use Rattle.ob_types.specs.declared.statements.CasePart.{CasePart}
use Rattle.ob_types.specs.declared.statements.TypePart.{TypePart}
use Rattle.ob_types.specs.declared.statements.Stmt.{Stmt}
use Rattle.ssa_lowered.specs.Pieces.{Mask}
use Rattle.ssa_lowered.specs.Variables.{none, assigned}

-- whether a variable is in a list
abbrev pub has : List ℕ → Mask
has [] x = false
has (y ∷ ys) x = y == x || has ys x

-- where no selector is, the variable as a whole
abbrev pub unselected_by : Mask → List Selector → Mask
unselected_by first [] = first
unselected_by first (s ∷ ss) = none

-- the variables that statements of a list assign
abbrev pub assigned_list : List Stmt → Mask
assigned_list ss x = list_any (λ s. assigned s x) ss

abbrev pub assigned_parts : List Branch → Mask
assigned_parts ps x = list_any (λ part. assigned_list part.body.items x) ps

abbrev pub assigned_cases : List CasePart → Mask
assigned_cases ps x = list_any (λ part. assigned_list part.body.items x) ps

abbrev pub assigned_types : List TypePart → Mask
assigned_types ps x = list_any (λ part. assigned_list part.body.items x) ps
