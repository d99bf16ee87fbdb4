-- What checked statements and their parts stand for.
use Rattle.std.specs.Prelude.{◌≡◌, ℕ, ℤ, List, Option, Some, None, Vec}
use Rattle.std.specs.Global.{Global}
use Rattle.ob_types.specs.Table.{Table}
use Rattle.ob_types.specs.declared.statements.Stmt.{Stmt}
use Rattle.ob_types.specs.declared.statements.Branch.{Branch}
use Rattle.ob_syntax.specs.Syntax as S
use Rattle.ob_judge.specs.Judged.{Judged, Keeps, ◌>>=◌, ◌>>◌, rule}
use Rattle.ob_judge.specs.Shapes.{is_number}
use Rattle.ob_judge.specs.Image as I
use Rattle.ob_judge.specs.Scopes.{World, Source, place}
use Rattle.ob_judge.specs.Operands.{Operand, checked}
use Rattle.ob_judge.specs.Symbols.{expression_first}
use Rattle.ob_judge.specs.Assignments.{number, step_of}
use Rattle.ob_judge.specs.Cases.{SelectorOf, OnType}
use Rattle.ob_judge.specs.Statements.{statements}
use Rattle.judged_tree.specs.Plain.{plain_designator, plain_statement, plain_body}
use Rattle.judged_tree.specs.Outline.{outlined_designator, outlined_statements, outlined_branches, outlined_parts}
use Rattle.check_statements.specs.trees.Onto.{statements_onto, branches_onto, case_parts_onto, type_parts_onto}
use Rattle.check_statements.specs.steps.Steps.{JudgedHead, on_value}
use Rattle.check_types.specs.TypeMeaning.{type_shape}
use Rattle.check_types.specs.declared.names.scope.Scope.{Scope}
use Rattle.check_types.specs.names.Meaning.{place_of}
use Rattle.check_types.specs.names.Worlds.{table_of}
use Rattle.check_operands.specs.Operands.{texts_of, bases_of}
use Rattle.check_selectors.specs.standard.Made.{IsChecked}
use Rattle.check_statements.specs.ranges.Ranges.{AreRanges}
use Rattle.check_statements.specs.declared.heads.Head.{Head}
use Rattle.check_statements.specs.declared.parts.CaseParts.{CaseParts}
use Rattle.check_statements.specs.declared.parts.CaseParts.TheVariants as TheParts

-- ---- statements

-- these are the statements
abbrev pub AreStatements : Scope → Vec Stmt Global → I.Statements → Type 0
AreStatements s v xs = plain_body (table_of s) (texts_of s) v.items ≡ outlined_statements (bases_of s) xs

-- what a statement puts before those that follow it: an empty one puts nothing
abbrev pub put_made : Table → List (List ℕ) → Option Stmt → I.Statements → I.Statements
put_made t texts None rest = rest
put_made t texts (Some x) rest = I.next_statement (plain_statement t texts x) rest

abbrev pub IsPut : Scope → Option Stmt → (I.Statements → I.Statements) → Type 0
IsPut s x f = (rest : I.Statements) →
    put_made (table_of s) (texts_of s) x (outlined_statements (bases_of s) rest) ≡ outlined_statements (bases_of s) (f rest)

-- these are what is put before the statements that follow
abbrev pub ArePut : Scope → Vec Stmt Global → (I.Statements → I.Statements) → Type 0
ArePut s v f = (rest : I.Statements) →
    statements_onto (table_of s) (texts_of s) v.items (outlined_statements (bases_of s) rest) ≡ outlined_statements (bases_of s) (f rest)

-- ---- branches

-- these are put before the branches that follow
abbrev pub ArePutBranches : Scope → Vec Branch Global → (I.Branches → I.Branches) → Type 0
ArePutBranches s v f = (rest : I.Branches) →
    branches_onto (table_of s) (texts_of s) v.items (outlined_branches (bases_of s) rest) ≡ outlined_branches (bases_of s) (f rest)

-- these are the branches
abbrev pub AreBranches : Scope → Vec Branch Global → I.Branches → Type 0
AreBranches s v bs = branches_onto (table_of s) (texts_of s) v.items I.no_branch ≡ outlined_branches (bases_of s) bs

-- one more branch, whose condition has been judged
abbrev pub branch_with : Source → World → (I.Branches → I.Branches) → I.Checked → S.Stats → Judged (I.Branches → I.Branches)
branch_with p w a guard body = do
  b ← statements p w body
  Keeps (λ rest. a (I.next_branch guard b rest))

-- ---- FOR

-- a FOR statement before DO
pub record IsHead (s : Scope) (x : Head) (a : JudgedHead) : Type 0 where
  pub variable : plain_designator (table_of s) (texts_of s) x.variable ≡ outlined_designator (bases_of s) a.variable
  pub first : IsChecked s x.first a.first
  pub limit : IsChecked s x.limit a.limit
  pub step : x.step ≡ a.step

-- the limit and the step, where the variable and its first value are known
abbrev pub counted : Source → World → I.Designator → Operand → S.Expression → S.Expression → Option S.By → Judged JudgedHead
counted p w d x from to by = do
  rule 31 (place p (expression_first from)) (is_number x.shape)
  y ← number p w to
  step ← step_of p w by
  Keeps (record { variable = d; first = checked x; limit = y; step = step })

-- ---- CASE

-- what is put before the parts that follow, and all labels so far
abbrev pub SoFar : Type 0
SoFar = (I.Parts → I.Parts) × List (ℤ × ℤ)

-- what the CASE is on
abbrev pub on_of : Table → CaseParts → SelectorOf
on_of t (TheParts.Values of_char parts taken) = on_value of_char
on_of t (TheParts.Types variable of parts) = OnType (place_of variable) (type_shape t of)

-- the image of parts, before a rest
abbrev pub parts_onto : Table → List (List ℕ) → CaseParts → I.Parts → I.Parts
parts_onto t texts (TheParts.Values of_char parts taken) rest = case_parts_onto t texts parts.items rest
parts_onto t texts (TheParts.Types variable of parts) rest = type_parts_onto t texts parts.items rest

-- these are the labels of values so far
abbrev pub AreTaken : CaseParts → List (ℤ × ℤ) → Type 0
AreTaken (TheParts.Values of_char parts taken) ts = AreRanges taken ts
AreTaken (TheParts.Types variable of parts) ts = Unit {0}

-- these are put before the parts that follow
pub record ArePutParts (s : Scope) (on : SelectorOf) (x : CaseParts) (a : SoFar) : Type 0 where
  pub selector : on_of (table_of s) x ≡ on
  pub parts : (rest : I.Parts) → parts_onto (table_of s) (texts_of s) x (outlined_parts (bases_of s) rest) ≡ outlined_parts (bases_of s) (a.0 rest)
  pub taken : AreTaken x a.1

-- these are the parts
pub record AreParts (s : Scope) (on : SelectorOf) (x : CaseParts) (parts : I.Parts) : Type 0 where
  pub selector : on_of (table_of s) x ≡ on
  pub all : parts_onto (table_of s) (texts_of s) x I.no_part ≡ outlined_parts (bases_of s) parts
