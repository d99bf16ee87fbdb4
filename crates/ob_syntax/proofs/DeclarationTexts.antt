-- What declarations that code makes spell: from the parts that they are made of.
use Rattle.std.proofs.Common.{◌≡◌, ℕ, Vec, Global, Option, refl, ap, ◌∙◌}
use Rattle.ob_grammar.specs.Grammar as G
use Rattle.ob_syntax.specs.Leaves.{leaf, optional, each, ◌⧺◌}
use Rattle.ob_syntax.specs.NameText.{identdef_text}
use Rattle.ob_syntax.specs.TypeText.{formals_text}
use Rattle.ob_syntax.specs.StatementText.{body_text}
use Rattle.ob_syntax.specs.DeclarationText.{decls_text, consts_text, types_text, vars_text, procedure_decl_text, procedure_text, returned_text, procedure_decl_row}
use Rattle.ob_syntax.specs.declared.names.Identdef.{Identdef}
use Rattle.ob_syntax.specs.declared.types.Formals.{Formals}
use Rattle.ob_syntax.specs.declared.statements.Body.{Body}
use Rattle.ob_syntax.specs.declared.declarations.Decls.{Decls, roll-Decls, rolls-Decls', Row_of-ProcedureDecl, end_of-ProcedureDecl, more_of-ProcedureDecl, items-the_row-ProcedureDecl, items_hidden-the_row-ProcedureDecl-0}
use Rattle.ob_syntax.specs.declared.declarations.Consts.{Consts}
use Rattle.ob_syntax.specs.declared.declarations.Types.{Types}
use Rattle.ob_syntax.specs.declared.declarations.Vars.{Vars}
use Rattle.ob_syntax.specs.declared.declarations.ProcedureDecl.{ProcedureDecl, roll-ProcedureDecl, rolls-ProcedureDecl'}
use Rattle.ob_syntax.specs.declared.declarations.Procedure.{Procedure, roll-Procedure, rolls-Procedure'}
use Rattle.ob_syntax.specs.declared.declarations.Returned.{Returned}
use Rattle.ob_syntax.specs.declared.declarations.Decls.TheBlock.{hidden-the_row-ProcedureDecl-0}

procedure_decl_row_are : (m : _) (row : Row_of-ProcedureDecl m) → procedure_decl_row row ≡ each procedure_decl_text (items-the_row-ProcedureDecl m row)
procedure_decl_row_are m end_of-ProcedureDecl = refl
procedure_decl_row_are m (more_of-ProcedureDecl x rest) = ap (λ t. procedure_decl_text x ⧺ t) (procedure_decl_row_are _ rest)

pub procedure_decl_row_is : (xs : Vec ProcedureDecl Global) → procedure_decl_row (hidden-the_row-ProcedureDecl-0 xs) ≡ each procedure_decl_text xs.items
procedure_decl_row_is xs = procedure_decl_row_are _ (hidden-the_row-ProcedureDecl-0 xs) ∙ ap (each procedure_decl_text) (items_hidden-the_row-ProcedureDecl-0 xs)

pub decls_is : (consts : Option Consts) (types : Option Types) (vars : Option Vars) (procedures : Vec ProcedureDecl Global) →
    decls_text (roll-Decls (record { consts = consts; types = types; vars = vars; procedures = procedures }))
    ≡ optional consts_text consts ⧺ optional types_text types ⧺ optional vars_text vars
    ⧺ each procedure_decl_text procedures.items
decls_is consts types vars procedures =
    ap decls_text (rolls-Decls' (record { consts = consts; types = types; vars = vars; procedures = procedures }))
    ∙ ap (λ t. optional consts_text consts ⧺ optional types_text types ⧺ optional vars_text vars
    ⧺ t) (procedure_decl_row_is procedures)

pub procedure_decl_is : (procedure : Procedure) (semicolon : ℕ) →
    procedure_decl_text (roll-ProcedureDecl (record { procedure = procedure; semicolon = semicolon }))
    ≡ procedure_text procedure ⧺ leaf G.semicolon semicolon
procedure_decl_is procedure semicolon =
    ap procedure_decl_text (rolls-ProcedureDecl' (record { procedure = procedure; semicolon = semicolon }))

pub procedure_is : (procedure_word : ℕ) (name : Identdef) (formals : Option Formals) (semicolon : ℕ) (decls : Decls) (body : Option Body) (returned : Option Returned) (end_word : ℕ) (end_name : ℕ) →
    procedure_text (roll-Procedure (record { procedure_word = procedure_word; name = name; formals = formals; semicolon = semicolon; decls = decls; body = body; returned = returned; end_word = end_word; end_name = end_name }))
    ≡ leaf G.PROCEDURE procedure_word ⧺ identdef_text name ⧺ optional formals_text formals ⧺ leaf G.semicolon semicolon
    ⧺ decls_text decls ⧺ optional body_text body ⧺ optional returned_text returned ⧺ leaf G.END end_word
    ⧺ leaf G.ident end_name
procedure_is procedure_word name formals semicolon decls body returned end_word end_name =
    ap procedure_text (rolls-Procedure' (record { procedure_word = procedure_word; name = name; formals = formals; semicolon = semicolon; decls = decls; body = body; returned = returned; end_word = end_word; end_name = end_name }))
