-- The images of lists of statements and parts, before a rest.
use Rattle.std.specs.Prelude.{ℕ, List, [], ◌∷◌}
use Rattle.ob_types.specs.Table.{Table}
use Rattle.ob_types.specs.declared.statements.Stmt.{Stmt}
use Rattle.ob_types.specs.declared.statements.Branch.{Branch, out-Branch}
use Rattle.ob_types.specs.declared.statements.CasePart.{CasePart, out-CasePart}
use Rattle.ob_types.specs.declared.statements.TypePart.{TypePart, out-TypePart}
use Rattle.ob_judge.specs.Image as I
use Rattle.judged_tree.specs.Plain.{plain_checked, plain_statement, plain_body}

module _ (t : Table) (texts : List (List ℕ)) where
  abbrev pub statements_onto : List Stmt → I.Statements → I.Statements
  statements_onto [] rest = rest
  statements_onto (s ∷ ss) rest = I.next_statement (plain_statement t texts s) (statements_onto ss rest)

  abbrev pub branches_onto : List Branch → I.Branches → I.Branches
  branches_onto [] rest = rest
  branches_onto (b ∷ bs) rest = I.next_branch (plain_checked t texts (out-Branch b).condition) (plain_body t texts (out-Branch b).body.items) (branches_onto bs rest)

  abbrev pub case_parts_onto : List CasePart → I.Parts → I.Parts
  case_parts_onto [] rest = rest
  case_parts_onto (p ∷ ps) rest = I.next_part (I.Labels (out-CasePart p).labels) (plain_body t texts (out-CasePart p).body.items) (case_parts_onto ps rest)

  abbrev pub type_parts_onto : List TypePart → I.Parts → I.Parts
  type_parts_onto [] rest = rest
  type_parts_onto (p ∷ ps) rest = I.next_part (I.Extends (out-TypePart p).record) (plain_body t texts (out-TypePart p).body.items) (type_parts_onto ps rest)
