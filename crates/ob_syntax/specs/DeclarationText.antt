-- What declarations spell, by cases on the tree.
use Rattle.std.specs.Prelude.{List, []}
use Rattle.ob_grammar.specs.Grammar as G
use Rattle.ob_syntax.specs.Leaves.{Leaf, leaf, optional, each, ◌⧺◌}
use Rattle.ob_syntax.specs.NameText.{identdef_text, idents_text}
use Rattle.ob_syntax.specs.ExpressionText.{expression_text}
use Rattle.ob_syntax.specs.TypeText.{type_tree_text, formals_text}
use Rattle.ob_syntax.specs.StatementText.{body_text}
use Rattle.ob_syntax.specs.declared.declarations.Decls.{Decls, Decls', Row_of-ProcedureDecl, end_of-ProcedureDecl, more_of-ProcedureDecl}
use Rattle.ob_syntax.specs.declared.declarations.Consts.{Consts}
use Rattle.ob_syntax.specs.declared.declarations.ConstDecl.{ConstDecl}
use Rattle.ob_syntax.specs.declared.declarations.Types.{Types}
use Rattle.ob_syntax.specs.declared.declarations.TypeDecl.{TypeDecl}
use Rattle.ob_syntax.specs.declared.declarations.Vars.{Vars}
use Rattle.ob_syntax.specs.declared.declarations.VarDecl.{VarDecl}
use Rattle.ob_syntax.specs.declared.declarations.ProcedureDecl.{ProcedureDecl, ProcedureDecl'}
use Rattle.ob_syntax.specs.declared.declarations.Procedure.{Procedure, Procedure'}
use Rattle.ob_syntax.specs.declared.declarations.Returned.{Returned}

-- `identdef "=" expression ";"`
abbrev pub const_decl_text : ConstDecl → List Leaf
const_decl_text x = identdef_text x.name ⧺ leaf G.equal x.equal ⧺ expression_text x.value
    ⧺ leaf G.semicolon x.semicolon

-- `CONST {identdef "=" expression ";"}`
abbrev pub consts_text : Consts → List Leaf
consts_text x = leaf G.CONST x.const_word ⧺ each const_decl_text x.each.items

-- `identdef "=" type ";"`
abbrev pub type_decl_text : TypeDecl → List Leaf
type_decl_text x = identdef_text x.name ⧺ leaf G.equal x.equal ⧺ type_tree_text x.is
    ⧺ leaf G.semicolon x.semicolon

-- `TYPE {identdef "=" type ";"}`
abbrev pub types_text : Types → List Leaf
types_text x = leaf G.TYPE x.type_word ⧺ each type_decl_text x.each.items

-- `idents ":" type ";"`
abbrev pub var_decl_text : VarDecl → List Leaf
var_decl_text x = idents_text x.names ⧺ leaf G.colon x.colon ⧺ type_tree_text x.of ⧺ leaf G.semicolon x.semicolon

-- `VAR {idents ":" type ";"}`
abbrev pub vars_text : Vars → List Leaf
vars_text x = leaf G.VAR x.var_word ⧺ each var_decl_text x.each.items

-- `RETURN expression`
abbrev pub returned_text : Returned → List Leaf
returned_text x = leaf G.RETURN x.return_word ⧺ expression_text x.value

abbrev mutual
  pub decls_text : Decls → List Leaf
  decls_text (Decls' consts types vars _ procedures) = optional consts_text consts ⧺ optional types_text types
      ⧺ optional vars_text vars ⧺ procedure_decl_row procedures

  pub procedure_decl_text : ProcedureDecl → List Leaf
  procedure_decl_text (ProcedureDecl' procedure semicolon) = procedure_text procedure ⧺ leaf G.semicolon semicolon

  pub procedure_text : Procedure → List Leaf
  procedure_text (Procedure' procedure_word name formals semicolon decls body returned end_word end_name) = leaf G.PROCEDURE procedure_word
      ⧺ identdef_text name ⧺ optional formals_text formals ⧺ leaf G.semicolon semicolon ⧺ decls_text decls
      ⧺ optional body_text body ⧺ optional returned_text returned ⧺ leaf G.END end_word ⧺ leaf G.ident end_name

  pub procedure_decl_row : {m : _} → Row_of-ProcedureDecl m → List Leaf
  procedure_decl_row end_of-ProcedureDecl = []
  procedure_decl_row (more_of-ProcedureDecl x rest) = procedure_decl_text x ⧺ procedure_decl_row rest
