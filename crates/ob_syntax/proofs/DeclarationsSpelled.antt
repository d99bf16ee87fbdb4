-- Declarations are spelled by trees of the grammar.
use Rattle.ob_grammar.specs.Grammar as G
use Rattle.ob_grammar.specs.Grammar.{part, ◌·◌, many}
use Rattle.ob_syntax.specs.TypeText.{formals_text}
use Rattle.ob_syntax.specs.StatementText.{body_text}
use Rattle.ob_syntax.specs.DeclarationText.{decls_text, consts_text, const_decl_text, types_text, type_decl_text, vars_text, var_decl_text, procedure_decl_text, procedure_text, returned_text, procedure_decl_row}
use Rattle.ob_syntax.specs.declared.declarations.Decls.{Decls, Decls', Row_of-ProcedureDecl, end_of-ProcedureDecl, more_of-ProcedureDecl}
use Rattle.ob_syntax.specs.declared.declarations.Consts.{Consts}
use Rattle.ob_syntax.specs.declared.declarations.ConstDecl.{ConstDecl}
use Rattle.ob_syntax.specs.declared.declarations.Types.{Types}
use Rattle.ob_syntax.specs.declared.declarations.TypeDecl.{TypeDecl}
use Rattle.ob_syntax.specs.declared.declarations.Vars.{Vars}
use Rattle.ob_syntax.specs.declared.declarations.VarDecl.{VarDecl}
use Rattle.ob_syntax.specs.declared.declarations.ProcedureDecl.{ProcedureDecl, ProcedureDecl'}
use Rattle.ob_syntax.specs.declared.declarations.Procedure.{Procedure, Procedure'}
use Rattle.ob_syntax.specs.declared.declarations.Returned.{Returned}
use Rattle.ob_syntax.proofs.NamesSpelled.{identdef, idents}
use Rattle.ob_syntax.proofs.ExpressionsSpelled.{expression}
use Rattle.ob_syntax.proofs.TypesSpelled.{formals, type_tree}
use Rattle.ob_syntax.proofs.StatementsSpelled.{body_part}
use Rattle.ob_syntax.proofs.Spelled.{Spelled, symbol, ◌then◌, again, done, named, within, if_there, all}

abbrev pub const_decl : (x : ConstDecl) → Spelled (part G.identdef · G.equal · part G.expression
    · G.semicolon) (const_decl_text x)
const_decl x = identdef x.name then symbol x.equal then expression x.value then symbol x.semicolon

abbrev pub consts : (x : Consts) → Spelled (G.CONST · many (part G.identdef · G.equal · part G.expression
    · G.semicolon)) (consts_text x)
consts x = symbol x.const_word then all const_decl_text (const_decl) x.each.items

abbrev pub type_decl : (x : TypeDecl) → Spelled (part G.identdef · G.equal · part G.type
    · G.semicolon) (type_decl_text x)
type_decl x = identdef x.name then symbol x.equal then type_tree x.is then symbol x.semicolon

abbrev pub types : (x : Types) → Spelled (G.TYPE · many (part G.identdef · G.equal · part G.type
    · G.semicolon)) (types_text x)
types x = symbol x.type_word then all type_decl_text (type_decl) x.each.items

abbrev pub var_decl : (x : VarDecl) → Spelled (part G.idents · G.colon · part G.type · G.semicolon) (var_decl_text x)
var_decl x = idents x.names then symbol x.colon then type_tree x.of then symbol x.semicolon

abbrev pub vars : (x : Vars) → Spelled (G.VAR · many (part G.idents · G.colon · part G.type · G.semicolon)) (vars_text x)
vars x = symbol x.var_word then all var_decl_text (var_decl) x.each.items

abbrev pub returned : (x : Returned) → Spelled (G.RETURN · part G.expression) (returned_text x)
returned x = symbol x.return_word then expression x.value

abbrev mutual
  pub decls : (x : Decls) → Spelled (part G.decls) (decls_text x)
  decls (Decls' c t v _ more) = named (if_there consts_text (consts) c then if_there types_text (types) t
      then if_there vars_text (vars) v then procedure_all more)

  pub procedure_all : {m : _} (x : Row_of-ProcedureDecl m) → Spelled (many (part G.procedure
      · G.semicolon)) (procedure_decl_row x)
  procedure_all end_of-ProcedureDecl = done
  procedure_all (more_of-ProcedureDecl x rest) = again (procedure_decl x) (procedure_all rest)

  pub procedure_decl : (x : ProcedureDecl) → Spelled (part G.procedure · G.semicolon) (procedure_decl_text x)
  procedure_decl (ProcedureDecl' x i) = procedure x then symbol i

  pub procedure : (x : Procedure) → Spelled (part G.procedure) (procedure_text x)
  procedure (Procedure' i name f j d b r k n) = named (within i (identdef name
      then if_there formals_text (formals) f then symbol j then decls d
      then if_there body_text (body_part) b then if_there returned_text (returned) r then symbol k
      then symbol n))
