-- What a tree of the grammar is as syntax.
use Rattle.std.proofs.Common.{ℕ, Option, None, Some, List, [], ◌∷◌}
use Rattle.ob_grammar.specs.Grammar as G
use Rattle.ob_grammar.specs.Grammar.{Phrase, one, part, ◌·◌, ◌∣◌, opt, many}
use Rattle.ob_grammar.specs.Leaves.{Tree, symbol, named, ◌then◌, left, right, there, absent, again, done, within}
use Rattle.ob_syntax.specs.Syntax as S
use Rattle.ob_syntax.specs.declared.expressions.Relation.{Relation}
use Rattle.ob_syntax.specs.declared.expressions.Relation.TheVariants as TheRelation
use Rattle.ob_syntax.specs.declared.expressions.Sign.{Sign}
use Rattle.ob_syntax.specs.declared.expressions.Sign.TheVariants as TheSign
use Rattle.ob_syntax.specs.declared.expressions.AddOperator.{AddOperator}
use Rattle.ob_syntax.specs.declared.expressions.AddOperator.TheVariants as TheAddOperator
use Rattle.ob_syntax.specs.declared.expressions.MulOperator.{MulOperator}
use Rattle.ob_syntax.specs.declared.expressions.MulOperator.TheVariants as TheMulOperator
use Rattle.ob_syntax.proofs.ExpressionsSpelled.{relations, add_operators, mul_operators, selectors}
use Rattle.ob_syntax.specs.declared.modules.Import.{Import}
use Rattle.ob_syntax.specs.declared.modules.ImportedName.{ImportedName}
use Rattle.ob_syntax.specs.declared.modules.NextImport.{NextImport}
use Rattle.ob_syntax.specs.declared.names.Identdef.{Identdef}
use Rattle.ob_syntax.specs.declared.names.Member.{Member}
use Rattle.ob_syntax.specs.declared.names.NextIdent.{NextIdent}
use Rattle.ob_syntax.specs.declared.names.NextIdentdef.{NextIdentdef}
use Rattle.ob_syntax.specs.declared.names.Qualident.{Qualident}
use Rattle.ob_syntax.specs.declared.statements.High.{High}
use Rattle.ob_syntax.specs.declared.statements.Label.TheVariants as TheLabel
use Rattle.ob_syntax.specs.declared.statements.Label.{Label}
use Rattle.ob_syntax.specs.declared.statements.NextRange.{NextRange}
use Rattle.ob_syntax.specs.declared.statements.Range.{Range}
use Rattle.ob_syntax.specs.declared.types.Base.{Base}
use Rattle.ob_syntax.specs.declared.types.OpenArray.{OpenArray}
use Rattle.ob_syntax.specs.declared.types.ResultType.{ResultType}

abbrev pub number : {k : ℕ} → Tree (one k) → ℕ
number (symbol i) = i

abbrev pub optional : {A : Type 0} {f : Phrase} → (Tree f → A) → Tree (opt f) → Option A
optional v absent = None
optional v (there x) = Some (v x)

abbrev pub each : {A : Type 0} {f : Phrase} → (Tree f → A) → Tree (many f) → List A
each v done = []
each v (again x more) = v x ∷ each v more

abbrev pub relation : Tree relations → Relation
relation (left (symbol i)) = TheRelation.Equal i
relation (right (left (symbol i))) = TheRelation.NotEqual i
relation (right (right (left (symbol i)))) = TheRelation.Less i
relation (right (right (right (left (symbol i))))) = TheRelation.LessEqual i
relation (right (right (right (right (left (symbol i)))))) = TheRelation.Greater i
relation (right (right (right (right (right (left (symbol i))))))) = TheRelation.GreaterEqual i
relation (right (right (right (right (right (right (left (symbol i)))))))) = TheRelation.In i
relation (right (right (right (right (right (right (right (symbol i)))))))) = TheRelation.Is i

abbrev pub sign : Tree (opt (G.plus ∣ G.minus)) → Option Sign
sign absent = None
sign (there (left (symbol i))) = Some (TheSign.Plus i)
sign (there (right (symbol i))) = Some (TheSign.Minus i)

abbrev pub add_operator : Tree add_operators → AddOperator
add_operator (left (symbol i)) = TheAddOperator.Plus i
add_operator (right (left (symbol i))) = TheAddOperator.Minus i
add_operator (right (right (symbol i))) = TheAddOperator.Or i

abbrev pub mul_operator : Tree mul_operators → MulOperator
mul_operator (left (symbol i)) = TheMulOperator.Times i
mul_operator (right (left (symbol i))) = TheMulOperator.Slash i
mul_operator (right (right (left (symbol i)))) = TheMulOperator.Div i
mul_operator (right (right (right (left (symbol i))))) = TheMulOperator.Mod i
mul_operator (right (right (right (right (symbol i))))) = TheMulOperator.And i

abbrev mutual
  pub expression : Tree (part G.expression) → S.Expression
  expression (named (x then absent)) = S.only (simple x)
  expression (named (x then there (r then y))) = S.compared (simple x) (relation r) (simple y)

  pub simple : Tree (part G.simple) → S.Simple
  simple (named (s then x then more)) = S.simple (sign s) (term x) (added more)

  pub added : Tree (many (add_operators · part G.term)) → S.Addeds
  added done = S.no_term
  added (again (o then x) more) = S.added (add_operator o) (term x) (added more)

  pub term : Tree (part G.term) → S.Term
  term (named (x then more)) = S.term (factor x) (multiplied more)

  pub multiplied : Tree (many (mul_operators · part G.factor)) → S.Multiplieds
  multiplied done = S.no_factor
  multiplied (again (o then x) more) = S.multiplied (mul_operator o) (factor x) (multiplied more)

  pub factor : Tree (part G.factor) → S.Factor
  factor (named (left (symbol i))) = S.Int i
  factor (named (right (left (symbol i)))) = S.Text i
  factor (named (right (right (left (symbol i))))) = S.Char i
  factor (named (right (right (right (left (symbol i)))))) = S.Nil i
  factor (named (right (right (right (right (left (symbol i))))))) = S.True i
  factor (named (right (right (right (right (right (left (symbol i)))))))) = S.False i
  factor (named (right (right (right (right (right (right (left (named (within i (absent then symbol j))))))))))) = S.EmptySet i j
  factor (named (right (right (right (right (right (right (left (named (within i (there (x then more) then symbol j))))))))))) = S.Set i (element x) (next_elements more) j
  factor (named (right (right (right (right (right (right (right (left (named (symbol i then more))))))))))) = S.Designated i (selectors_of more)
  factor (named (right (right (right (right (right (right (right (right (left (within i (x then symbol j)))))))))))) = S.Paren i (expression x) j
  factor (named (right (right (right (right (right (right (right (right (right (within i x))))))))))) = S.Not i (factor x)

  pub next_elements : Tree (many (G.comma · part G.element)) → S.NextElements
  next_elements done = S.no_element
  next_elements (again (symbol i then x) more) = S.next_element i (element x) (next_elements more)

  pub element : Tree (part G.element) → S.Element
  element (named (x then absent)) = S.one (expression x)
  element (named (x then there (symbol i then y))) = S.range (expression x) i (expression y)

  pub selectors_of : Tree (many selectors) → S.Selectors
  selectors_of done = S.no_selector
  selectors_of (again x more) = S.selected (selector x) (selectors_of more)

  pub selector : Tree selectors → S.Selector
  selector (left (symbol i then symbol j)) = S.Field i j
  selector (right (left (within i (x then symbol j)))) = S.Index i (list x) j
  selector (right (right (left (symbol i)))) = S.Arrow i
  selector (right (right (right (within i (absent then symbol j))))) = S.EmptyParens i j
  selector (right (right (right (within i (there x then symbol j))))) = S.Parens i (list x) j

  pub list : Tree (part G.list) → S.Expressions
  list (named (x then more)) = S.expressions (expression x) (next_expressions more)

  pub next_expressions : Tree (many (G.comma · part G.expression)) → S.NextExpressions
  next_expressions done = S.no_expression
  next_expressions (again (symbol i then x) more) = S.next_expression i (expression x) (next_expressions more)

abbrev pub designator : Tree (part G.designator) → S.Designator
designator (named (symbol i then more)) = record { name = i; selectors = selectors_of more }

abbrev pub member : Tree (G.period · G.ident) → Member
member (symbol i then symbol j) = record { period = i; name = j }

abbrev pub qualident : Tree (part G.qualident) → Qualident
qualident (named (symbol i then m)) = record { name = i; member = optional member m }

abbrev pub identdef : Tree (part G.identdef) → Identdef
identdef (named (symbol i then star)) = record { name = i; star = optional number star }

abbrev pub next_identdef : Tree (G.comma · part G.identdef) → NextIdentdef
next_identdef (symbol i then x) = record { comma = i; name = identdef x }

abbrev pub idents : Tree (part G.idents) → S.Idents
idents (named (x then more)) = record { first = identdef x; more = each next_identdef more }

abbrev pub next_ident : Tree (G.comma · G.ident) → NextIdent
next_ident (symbol i then symbol j) = record { comma = i; name = j }

abbrev pub base : Tree (G.left_paren · part G.qualident · G.right_paren) → Base
base (symbol i then x then symbol j) = record { left_paren = i; name = qualident x; right_paren = j }

abbrev pub open_array : Tree (G.ARRAY · G.OF) → OpenArray
open_array (symbol i then symbol j) = record { array_word = i; of_word = j }

abbrev pub section : Tree (part G.section) → S.Section
section (named (v then symbol i then more then symbol j then o then x)) = record { var_word = optional number v; first = i; more = each next_ident more; colon = j; open_array = optional open_array o; of = qualident x }

abbrev pub next_section : Tree (G.semicolon · part G.section) → S.NextSection
next_section (symbol i then x) = record { semicolon = i; section = section x }

abbrev pub sections : Tree (part G.section · many (G.semicolon · part G.section)) → S.Sections
sections (x then more) = record { first = section x; more = each next_section more }

abbrev pub result_type : Tree (G.colon · part G.qualident) → ResultType
result_type (symbol i then x) = record { colon = i; name = qualident x }

abbrev pub formals : Tree (part G.formals) → S.Formals
formals (named (symbol i then x then symbol j then r)) = record { left_paren = i; sections = optional sections x; right_paren = j; result = optional result_type r }

abbrev mutual
  pub type : Tree (part G.type) → S.TypeTree
  type (named (left x)) = S.Named (qualident x)
  type (named (right (left (within i (x then more then symbol j then t))))) = S.Array i (expression x) (next_expressions more) j (type t)
  type (named (right (right (left (within i (b then f then more then symbol j)))))) = S.Record i (optional base b) (fields f) (next_fields more) j
  type (named (right (right (right (left (within i (symbol j then x))))))) = S.Pointer i j (type x)
  type (named (right (right (right (right (within i f)))))) = S.Procedure i (optional formals f)

  pub fields : Tree (opt (part G.fields)) → S.MaybeFields
  fields absent = S.no_fields
  fields (there (named (x then symbol i then t))) = S.fields (idents x) i (type t)

  pub next_fields : Tree (many (G.semicolon · opt (part G.fields))) → S.NextFields
  next_fields done = S.no_more_fields
  next_fields (again (symbol i then x) more) = S.next_fields i (fields x) (next_fields more)

abbrev pub label : Tree (part G.label) → Label
label (named (left (symbol i))) = TheLabel.Int i
label (named (right (left (symbol i)))) = TheLabel.Text i
label (named (right (right (left (symbol i))))) = TheLabel.Char i
label (named (right (right (right x)))) = TheLabel.Named (qualident x)

abbrev pub high : Tree (G.dots · part G.label) → High
high (symbol i then x) = record { dots = i; label = label x }

abbrev pub range : Tree (part G.range) → Range
range (named (x then h)) = record { low = label x; high = optional high h }

abbrev pub next_range : Tree (G.comma · part G.range) → NextRange
next_range (symbol i then x) = record { comma = i; range = range x }

abbrev pub assigned : Tree (G.becomes · part G.expression) → S.Assigned
assigned (symbol i then x) = record { becomes = i; value = expression x }

abbrev pub by_part : Tree (G.BY · part G.expression) → S.By
by_part (symbol i then x) = record { by_word = i; step = expression x }

abbrev mutual
  pub stats : Tree (part G.stats) → S.Stats
  stats (named (x then more)) = S.stats (stat x) (next_stats more)

  pub next_stats : Tree (many (G.semicolon · part G.stat)) → S.NextStats
  next_stats done = S.no_stat
  next_stats (again (symbol i then x) more) = S.next_stat i (stat x) (next_stats more)

  pub stat : Tree (part G.stat) → S.Stat
  stat (named absent) = S.Empty
  stat (named (there (left (x then a)))) = S.AssignOrCall (designator x) (optional assigned a)
  stat (named (there (right (left (within i (x then symbol j then body then more then other then symbol k)))))) = S.If i (expression x) j (stats body) (elsifs more) (otherwise other) k
  stat (named (there (right (right (left (within i (x then symbol j then first then more then symbol k))))))) = S.Case i (expression x) j (case first) (next_cases more) k
  stat (named (there (right (right (right (left (within i (x then symbol j then body then more then symbol k)))))))) = S.While i (expression x) j (stats body) (elsif_dos more) k
  stat (named (there (right (right (right (right (left (within i (body then symbol j then x))))))))) = S.Repeat i (stats body) j (expression x)
  stat (named (there (right (right (right (right (right (within i (symbol v then symbol j then a then symbol k then b then step then symbol m then body then symbol n))))))))) = S.For i v j (expression a) k (expression b) (optional by_part step) m (stats body) n

  pub elsifs : Tree (many (G.ELSIF · part G.expression · G.THEN · part G.stats)) → S.Elsifs
  elsifs done = S.no_elsif
  elsifs (again (symbol i then x then symbol j then body) more) = S.next_elsif i (expression x) j (stats body) (elsifs more)

  pub elsif_dos : Tree (many (G.ELSIF · part G.expression · G.DO · part G.stats)) → S.Elsifs
  elsif_dos done = S.no_elsif
  elsif_dos (again (symbol i then x then symbol j then body) more) = S.next_elsif i (expression x) j (stats body) (elsif_dos more)

  pub otherwise : Tree (opt (G.ELSE · part G.stats)) → S.MaybeElse
  otherwise absent = S.no_else
  otherwise (there (symbol i then body)) = S.otherwise i (stats body)

  pub case : Tree (part G.case) → S.MaybeCase
  case (named absent) = S.no_case
  case (named (there (x then more then symbol i then body))) = S.one_case (range x) (each next_range more) i (stats body)

  pub next_cases : Tree (many (G.bar · part G.case)) → S.NextCases
  next_cases done = S.no_next_case
  next_cases (again (symbol i then x) more) = S.next_case i (case x) (next_cases more)

abbrev pub body_part : Tree (G.BEGIN · part G.stats) → S.Body
body_part (symbol i then x) = record { begin_word = i; stats = stats x }

abbrev pub const_decl : Tree (part G.identdef · G.equal · part G.expression · G.semicolon) → S.ConstDecl
const_decl (x then symbol i then e then symbol j) = record { name = identdef x; equal = i; value = expression e; semicolon = j }

abbrev pub consts : Tree (G.CONST · many (part G.identdef · G.equal · part G.expression · G.semicolon)) → S.Consts
consts (symbol i then more) = record { const_word = i; each = each const_decl more }

abbrev pub type_decl : Tree (part G.identdef · G.equal · part G.type · G.semicolon) → S.TypeDecl
type_decl (x then symbol i then t then symbol j) = record { name = identdef x; equal = i; is = type t; semicolon = j }

abbrev pub types : Tree (G.TYPE · many (part G.identdef · G.equal · part G.type · G.semicolon)) → S.Types
types (symbol i then more) = record { type_word = i; each = each type_decl more }

abbrev pub var_decl : Tree (part G.idents · G.colon · part G.type · G.semicolon) → S.VarDecl
var_decl (x then symbol i then t then symbol j) = record { names = idents x; colon = i; of = type t; semicolon = j }

abbrev pub vars : Tree (G.VAR · many (part G.idents · G.colon · part G.type · G.semicolon)) → S.Vars
vars (symbol i then more) = record { var_word = i; each = each var_decl more }

abbrev pub returned : Tree (G.RETURN · part G.expression) → S.Returned
returned (symbol i then x) = record { return_word = i; value = expression x }

abbrev mutual
  pub decls : Tree (part G.decls) → S.Decls
  decls (named (c then t then v then more)) = S.decls (optional consts c) (optional types t) (optional vars v) (procedures more)

  pub procedures : Tree (many (part G.procedure · G.semicolon)) → S.Procedures
  procedures done = S.no_procedure
  procedures (again (named (within i (x then f then symbol j then d then b then r then symbol k then symbol n)) then symbol m) more) = S.procedure i (identdef x) (optional formals f) j (decls d) (optional body_part b) (optional returned r) k n m (procedures more)

abbrev pub imported_name : Tree (G.becomes · G.ident) → ImportedName
imported_name (symbol i then symbol j) = record { becomes = i; name = j }

abbrev pub import : Tree (part G.import) → Import
import (named (symbol i then x)) = record { name = i; of = optional imported_name x }

abbrev pub next_import : Tree (G.comma · part G.import) → NextImport
next_import (symbol i then x) = record { comma = i; import = import x }

abbrev pub imports : Tree (G.IMPORT · part G.import · many (G.comma · part G.import) · G.semicolon) → S.Imports
imports (symbol i then x then more then symbol j) = record { import_word = i; first = import x; more = each next_import more; semicolon = j }

abbrev pub module_ : Tree (part G.module_) → S.Module
module_ (named (symbol i then symbol j then symbol k then x then d then b then symbol l then symbol m then symbol n)) = record { module_word = i; name = j; semicolon = k; imports = optional imports x; decls = decls d; body = optional body_part b; end_word = l; end_name = m; period = n }
