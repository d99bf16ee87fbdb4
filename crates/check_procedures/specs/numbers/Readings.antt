-- How each part of a checked tree is read.
use Rattle.std.specs.Prelude.{ℕ, List, [], ◌++◌, map, Bool, true, false, Option, option_map}
use Rattle.std.specs.List.{flat_map}
use Rattle.ob_types.specs.declared.types.TypeKind.{TypeKind}
use Rattle.ob_types.specs.declared.tree.Base.{Base}
use Rattle.ob_types.specs.declared.tree.Expr.{Expr}
use Rattle.ob_types.specs.declared.tree.Link.{Link}
use Rattle.ob_types.specs.declared.tree.Designator.{Designator}
use Rattle.ob_types.specs.declared.tree.Access.{Access}
use Rattle.ob_types.specs.declared.tree.Selector.{Selector, Index, Field, Dereference, Narrow}
use Rattle.ob_types.specs.declared.tree.Call.{Call}
use Rattle.ob_types.specs.declared.tree.Argument.{Argument}
use Rattle.ob_types.specs.declared.statements.Checked.{Checked}
use Rattle.ob_types.specs.declared.statements.Branch.{Branch, out-Branch}
use Rattle.ob_types.specs.declared.statements.CasePart.{CasePart, out-CasePart}
use Rattle.ob_types.specs.declared.statements.TypePart.{TypePart, out-TypePart}
use Rattle.ob_types.specs.declared.statements.ForLoop.{ForLoop, out-ForLoop}
use Rattle.ob_types.specs.declared.statements.Stmt.{Stmt, Assign, CopyArray, CopyRecord, Increase, Decrease, Include, Exclude, If', While', Repeat', For', Case', CasePointer', CaseParameter'}
use Rattle.ob_types.specs.Table.{Table}
use Rattle.ob_judge.specs.Shapes.{Shape}
use Rattle.ob_judge.specs.Texts.{Strings, in_expr, in_link, in_designator, in_place, in_call, in_argument, in_statement, in_statements, in_answer}
use Rattle.ob_judge.specs.Image as I
use Rattle.judged_tree.specs.TypeShapes.{shape_of, shape_of_kind}
use Rattle.judged_tree.specs.Plain.{plain_base, plain_expr, plain_link, plain_designator, plain_call, plain_argument, plain_checked, plain_statement, plain_body, guarded, pointer_at}
use Rattle.check_operands.specs.trees.Lists.{access_image}
use Rattle.check_procedures.specs.numbers.Numbering.{Reading}

-- one after the other
abbrev pub each : {A B : Type 0} → Reading A B → Reading (List A) (List B)
each r = record { image = λ t texts xs. map (r.image t texts) xs; uses = λ xs. flat_map r.uses xs }

-- one part behind another
abbrev pub pair : {A B C D : Type 0} → Reading A B → Reading C D → Reading (A × C) (B × D)
pair q r = record { image = λ t texts x. (q.image t texts x.0, r.image t texts x.1); uses = λ x. q.uses x.0 ++ r.uses x.1 }

-- ---- types

abbrev pub numbers : Reading ℕ Shape
numbers = record { image = λ t texts k. shape_of t k; uses = λ s. [] }

abbrev pub kinds : Reading TypeKind Shape
kinds = record { image = λ t texts k. shape_of_kind t k; uses = λ s. [] }

-- ---- expressions

abbrev pub bases : Reading Base I.Place
bases = record { image = plain_base; uses = in_place }

abbrev pub expressions : Reading Expr I.Expr
expressions = record { image = plain_expr; uses = in_expr }

abbrev pub links : Reading Link I.Link
links = record { image = plain_link; uses = in_link }

abbrev pub designators : Reading Designator I.Designator
designators = record { image = plain_designator; uses = in_designator }

-- what a variable with selectors is
abbrev pub access_of : Table → Strings → Access → I.Designator
access_of t texts a = I.of_type (access_image t texts a) (shape_of_kind t a.kind)

abbrev pub accesses : Reading Access I.Designator
accesses = record { image = access_of; uses = in_designator }

abbrev pub calls : Reading Call I.Call
calls = record { image = plain_call; uses = in_call }

abbrev pub arguments : Reading Argument I.Argument
arguments = record { image = plain_argument; uses = in_argument }

-- what a selector leads to, wherever it begins
pub data Leads : Type 0 where
  ToElement : (length : Option ℕ) → (element : Shape) → (index : I.Expr) → Leads
  ToField : (adder number : ℕ) → Leads
  ToObject : (tags : List ℕ) → Leads
  ToNarrowed : (tag : ℕ) → Leads

abbrev pub leads : Table → Strings → Selector → Leads
leads t texts (Index length element index) = ToElement length (shape_of t element) (plain_expr t texts index)
leads t texts (Field adder number) = ToField adder number
leads t texts (Dereference tags) = ToObject tags
leads t texts (Narrow tag) = ToNarrowed tag

abbrev pub in_lead : Leads → Strings
in_lead (ToElement length element index) = in_expr index
in_lead _ = []

abbrev pub from_place : Leads → I.Place → I.Place
from_place (ToElement length element index) place = I.Index place length element index
from_place (ToField adder number) place = I.Field place adder number
from_place (ToObject tags) place = I.Dereference (guarded tags (pointer_at place))
from_place (ToNarrowed tag) place = I.Narrow place tag

abbrev pub selectors : Reading Selector Leads
selectors = record { image = leads; uses = in_lead }

-- ---- statements

abbrev pub checked : Reading Checked I.Checked
checked = record { image = plain_checked; uses = λ x. in_expr x.form }

abbrev pub statements : Reading Stmt I.Statement
statements = record { image = plain_statement; uses = in_statement }

-- whether a statement has statements in it
abbrev pub is_compound : Stmt → Bool
is_compound (If' _ branches _ other) = true
is_compound (While' _ branches) = true
is_compound (Repeat' _ body x) = true
is_compound (For' _ d x y step _ body) = true
is_compound (Case' x _ parts) = true
is_compound (CasePointer' x _ parts) = true
is_compound (CaseParameter' d _ parts) = true
is_compound _ = false

-- whether it gives a variable a value
abbrev pub is_update : Stmt → Bool
is_update (Assign d x) = true
is_update (CopyArray d e) = true
is_update (CopyRecord d e) = true
is_update (Increase d x) = true
is_update (Decrease d x) = true
is_update (Include d x) = true
is_update (Exclude d x) = true
is_update _ = false

abbrev pub bodies : Reading (List Stmt) I.Statements
bodies = record { image = plain_body; uses = in_statements }

-- what a FOR statement is
abbrev pub loop_of : Table → Strings → ForLoop → I.Statement
loop_of t texts l =
    I.For (plain_designator t texts (out-ForLoop l).variable) (plain_checked t texts (out-ForLoop l).first) (plain_checked t texts (out-ForLoop l).limit) (out-ForLoop l).step (plain_body t texts (out-ForLoop l).body.items)

abbrev pub loops : Reading ForLoop I.Statement
loops = record { image = loop_of; uses = in_statement }

-- the expression behind RETURN
abbrev pub answers : Reading (Option Checked) (Option I.Checked)
answers = record { image = λ t texts x. option_map (plain_checked t texts) x; uses = in_answer }

-- what is done, where this holds
pub record Guarded : Type 0 where
  pub condition : I.Checked
  pub body : I.Statements

abbrev pub guarded_of : Table → Strings → Branch → Guarded
guarded_of t texts b = record { condition = plain_checked t texts (out-Branch b).condition; body = plain_body t texts (out-Branch b).body.items }

abbrev pub branches : Reading Branch Guarded
branches = record { image = guarded_of; uses = λ x. in_expr x.condition.form ++ in_statements x.body }

-- what is done in a part of a CASE
pub record Chosen : Type 0 where
  pub when : I.When
  pub body : I.Statements

abbrev pub chosen_by_labels : Table → Strings → CasePart → Chosen
chosen_by_labels t texts p = record { when = I.Labels (out-CasePart p).labels; body = plain_body t texts (out-CasePart p).body.items }

abbrev pub chosen_by_type : Table → Strings → TypePart → Chosen
chosen_by_type t texts p = record { when = I.Extends (out-TypePart p).record; body = plain_body t texts (out-TypePart p).body.items }

abbrev pub case_parts : Reading CasePart Chosen
case_parts = record { image = chosen_by_labels; uses = λ x. in_statements x.body }

abbrev pub type_parts : Reading TypePart Chosen
type_parts = record { image = chosen_by_type; uses = λ x. in_statements x.body }
