-- The syntax of a module: its tree without the memory that holds it. Each ℕ is the index of a symbol.
-- Parts that don't contain themselves are records with the fields of the types in `src/`, or these types where they hold no
-- memory. Parts that do are data, with an argument for each field; a list of such parts is a type of its own, with a
-- constructor for its end and one that puts a part before the rest, and an option is two constructors.
use Rattle.std.specs.Prelude.{ℕ, Option, List}
use Rattle.ob_syntax.specs.declared.expressions.Relation.{Relation}
use Rattle.ob_syntax.specs.declared.expressions.Sign.{Sign}
use Rattle.ob_syntax.specs.declared.expressions.AddOperator.{AddOperator}
use Rattle.ob_syntax.specs.declared.expressions.MulOperator.{MulOperator}
use Rattle.ob_syntax.specs.declared.names.Qualident.{Qualident}
use Rattle.ob_syntax.specs.declared.names.Identdef.{Identdef}
use Rattle.ob_syntax.specs.declared.names.NextIdentdef.{NextIdentdef}
use Rattle.ob_syntax.specs.declared.names.NextIdent.{NextIdent}
use Rattle.ob_syntax.specs.declared.types.Base.{Base}
use Rattle.ob_syntax.specs.declared.types.ResultType.{ResultType}
use Rattle.ob_syntax.specs.declared.types.OpenArray.{OpenArray}
use Rattle.ob_syntax.specs.declared.statements.Range.{Range}
use Rattle.ob_syntax.specs.declared.statements.NextRange.{NextRange}
use Rattle.ob_syntax.specs.declared.modules.Import.{Import}
use Rattle.ob_syntax.specs.declared.modules.NextImport.{NextImport}

mutual
  -- `"." ident | "[" list "]" | "^" | "(" [list] ")"`
  pub data Selector : Type 0 where
    Field : (period name : ℕ) → Selector
    Index : (left_bracket : ℕ) → (list : Expressions) → (right_bracket : ℕ) → Selector
    Arrow : (arrow : ℕ) → Selector
    EmptyParens : (left_paren right_paren : ℕ) → Selector
    Parens : (left_paren : ℕ) → (list : Expressions) → (right_paren : ℕ) → Selector

  pub data Selectors : Type 0 where
    no_selector : Selectors
    selected : (first : Selector) → (rest : Selectors) → Selectors

  -- `expression {"," expression}`
  pub data Expressions : Type 0 where
    expressions : (first : Expression) → (more : NextExpressions) → Expressions

  -- `{"," expression}`
  pub data NextExpressions : Type 0 where
    no_expression : NextExpressions
    next_expression : (comma : ℕ) → (expression : Expression) → (rest : NextExpressions) → NextExpressions

  -- `simple [("=" | "#" | "<" | "<=" | ">" | ">=" | IN | IS) simple]`
  pub data Expression : Type 0 where
    only : (left : Simple) → Expression
    compared : (left : Simple) → (relation : Relation) → (right : Simple) → Expression

  -- `["+" | "-"] term {("+" | "-" | OR) term}`
  pub data Simple : Type 0 where
    simple : (sign : Option Sign) → (first : Term) → (more : Addeds) → Simple

  -- `{("+" | "-" | OR) term}`
  pub data Addeds : Type 0 where
    no_term : Addeds
    added : (operator : AddOperator) → (term : Term) → (rest : Addeds) → Addeds

  -- `factor {("*" | "/" | DIV | MOD | "&") factor}`
  pub data Term : Type 0 where
    term : (first : Factor) → (more : Multiplieds) → Term

  -- `{("*" | "/" | DIV | MOD | "&") factor}`
  pub data Multiplieds : Type 0 where
    no_factor : Multiplieds
    multiplied : (operator : MulOperator) → (factor : Factor) → (rest : Multiplieds) → Multiplieds

  -- `integer | string | char | NIL | TRUE | FALSE | set | designator | "(" expression ")" | "~" factor`
  pub data Factor : Type 0 where
    Int : (integer : ℕ) → Factor
    Text : (string : ℕ) → Factor
    Char : (char : ℕ) → Factor
    Nil : (nil_word : ℕ) → Factor
    True : (true_word : ℕ) → Factor
    False : (false_word : ℕ) → Factor
    EmptySet : (left_brace right_brace : ℕ) → Factor
    Set : (left_brace : ℕ) → (first : Element) → (more : NextElements) → (right_brace : ℕ) → Factor
    Designated : (name : ℕ) → (selectors : Selectors) → Factor
    Paren : (left_paren : ℕ) → (expression : Expression) → (right_paren : ℕ) → Factor
    Not : (tilde : ℕ) → (factor : Factor) → Factor

  -- `{"," element}`
  pub data NextElements : Type 0 where
    no_element : NextElements
    next_element : (comma : ℕ) → (element : Element) → (rest : NextElements) → NextElements

  -- `expression [".." expression]`
  pub data Element : Type 0 where
    one : (value : Expression) → Element
    range : (low : Expression) → (dots : ℕ) → (high : Expression) → Element

-- `ident {"." ident | "[" list "]" | "^" | "(" [list] ")"}`
pub record Designator : Type 0 where
  pub name : ℕ
  pub selectors : Selectors

-- `identdef {"," identdef}`
pub record Idents : Type 0 where
  pub first : Identdef
  pub more : List NextIdentdef

-- `[VAR] ident {"," ident} ":" [ARRAY OF] qualident`
pub record Section : Type 0 where
  pub var_word : Option ℕ
  pub first : ℕ
  pub more : List NextIdent
  pub colon : ℕ
  pub open_array : Option OpenArray
  pub of : Qualident

-- `";" section`
pub record NextSection : Type 0 where
  pub semicolon : ℕ
  pub section : Section

-- `section {";" section}`
pub record Sections : Type 0 where
  pub first : Section
  pub more : List NextSection

-- `"(" [section {";" section}] ")" [":" qualident]`
pub record Formals : Type 0 where
  pub left_paren : ℕ
  pub sections : Option Sections
  pub right_paren : ℕ
  pub result : Option ResultType

mutual
  -- `qualident | ARRAY .. | RECORD .. | POINTER .. | PROCEDURE ..`
  pub data TypeTree : Type 0 where
    Named : (name : Qualident) → TypeTree
    Array : (array_word : ℕ) → (first : Expression) → (more : NextExpressions) → (of_word : ℕ) → (element : TypeTree) → TypeTree
    Record : (record_word : ℕ) → (base : Option Base) → (first : MaybeFields) → (more : NextFields) → (end_word : ℕ) → TypeTree
    Pointer : (pointer_word to_word : ℕ) → (base : TypeTree) → TypeTree
    Procedure : (procedure_word : ℕ) → (formals : Option Formals) → TypeTree

  -- `[idents ":" type]`
  pub data MaybeFields : Type 0 where
    no_fields : MaybeFields
    fields : (names : Idents) → (colon : ℕ) → (of : TypeTree) → MaybeFields

  -- `{";" [fields]}`
  pub data NextFields : Type 0 where
    no_more_fields : NextFields
    next_fields : (semicolon : ℕ) → (fields : MaybeFields) → (rest : NextFields) → NextFields

-- `":=" expression`
pub record Assigned : Type 0 where
  pub becomes : ℕ
  pub value : Expression

-- `BY expression`
pub record By : Type 0 where
  pub by_word : ℕ
  pub step : Expression

mutual
  -- `stat {";" stat}`
  pub data Stats : Type 0 where
    stats : (first : Stat) → (more : NextStats) → Stats

  -- `{";" stat}`
  pub data NextStats : Type 0 where
    no_stat : NextStats
    next_stat : (semicolon : ℕ) → (stat : Stat) → (rest : NextStats) → NextStats

  -- `[designator [":=" expression] | IF .. | CASE .. | WHILE .. | REPEAT .. | FOR ..]`
  pub data Stat : Type 0 where
    Empty : Stat
    AssignOrCall : (designator : Designator) → (assigned : Option Assigned) → Stat
    If : (if_word : ℕ) → (guard : Expression) → (then_word : ℕ) → (body : Stats) → (elsifs : Elsifs) → (otherwise : MaybeElse) → (end_word : ℕ) → Stat
    Case : (case_word : ℕ) → (selector : Expression) → (of_word : ℕ) → (first : MaybeCase) → (more : NextCases) → (end_word : ℕ) → Stat
    While : (while_word : ℕ) → (guard : Expression) → (do_word : ℕ) → (body : Stats) → (elsifs : Elsifs) → (end_word : ℕ) → Stat
    Repeat : (repeat_word : ℕ) → (body : Stats) → (until_word : ℕ) → (guard : Expression) → Stat
    For : (for_word variable becomes : ℕ) → (from : Expression) → (to_word : ℕ) → (to : Expression) → (by : Option By) → (do_word : ℕ) → (body : Stats) → (end_word : ℕ) → Stat

  -- `{ELSIF expression THEN stats}`, and of a WHILE `{ELSIF expression DO stats}`
  pub data Elsifs : Type 0 where
    no_elsif : Elsifs
    next_elsif : (elsif_word : ℕ) → (guard : Expression) → (then_word : ℕ) → (body : Stats) → (rest : Elsifs) → Elsifs

  -- `[ELSE stats]`
  pub data MaybeElse : Type 0 where
    no_else : MaybeElse
    otherwise : (else_word : ℕ) → (body : Stats) → MaybeElse

  -- `[range {"," range} ":" stats]`
  pub data MaybeCase : Type 0 where
    no_case : MaybeCase
    one_case : (first : Range) → (more : List NextRange) → (colon : ℕ) → (body : Stats) → MaybeCase

  -- `{"|" case}`
  pub data NextCases : Type 0 where
    no_next_case : NextCases
    next_case : (bar : ℕ) → (case : MaybeCase) → (rest : NextCases) → NextCases

-- `BEGIN stats`
pub record Body : Type 0 where
  pub begin_word : ℕ
  pub stats : Stats

-- `identdef "=" expression ";"`
pub record ConstDecl : Type 0 where
  pub name : Identdef
  pub equal : ℕ
  pub value : Expression
  pub semicolon : ℕ

-- `CONST {identdef "=" expression ";"}`
pub record Consts : Type 0 where
  pub const_word : ℕ
  pub each : List ConstDecl

-- `identdef "=" type ";"`
pub record TypeDecl : Type 0 where
  pub name : Identdef
  pub equal : ℕ
  pub is : TypeTree
  pub semicolon : ℕ

-- `TYPE {identdef "=" type ";"}`
pub record Types : Type 0 where
  pub type_word : ℕ
  pub each : List TypeDecl

-- `idents ":" type ";"`
pub record VarDecl : Type 0 where
  pub names : Idents
  pub colon : ℕ
  pub of : TypeTree
  pub semicolon : ℕ

-- `VAR {idents ":" type ";"}`
pub record Vars : Type 0 where
  pub var_word : ℕ
  pub each : List VarDecl

-- `RETURN expression`
pub record Returned : Type 0 where
  pub return_word : ℕ
  pub value : Expression

mutual
  -- `[CONST ..] [TYPE ..] [VAR ..] {procedure ";"}`
  pub data Decls : Type 0 where
    decls : (consts : Option Consts) → (types : Option Types) → (vars : Option Vars) → (procedures : Procedures) → Decls

  -- `{PROCEDURE identdef [formals] ";" decls [BEGIN stats] [RETURN expression] END ident ";"}`
  pub data Procedures : Type 0 where
    no_procedure : Procedures
    procedure : (procedure_word : ℕ) → (name : Identdef) → (formals : Option Formals) → (semicolon : ℕ) → (decls : Decls)
        → (body : Option Body) → (returned : Option Returned) → (end_word end_name last : ℕ) → (rest : Procedures) → Procedures

-- `IMPORT import {"," import} ";"`
pub record Imports : Type 0 where
  pub import_word : ℕ
  pub first : Import
  pub more : List NextImport
  pub semicolon : ℕ

-- `MODULE ident ";" [IMPORT import {"," import} ";"] decls [BEGIN stats] END ident "."`
pub record Module : Type 0 where
  pub module_word : ℕ
  pub name : ℕ
  pub semicolon : ℕ
  pub imports : Option Imports
  pub decls : Decls
  pub body : Option Body
  pub end_word : ℕ
  pub end_name : ℕ
  pub period : ℕ
