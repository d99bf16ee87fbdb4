-- What declarations spell, by their fields.
use Rattle.std.proofs.Common.{◌≡◌, sym, ap, ◌∙◌}
use Rattle.ob_grammar.specs.Grammar as G
use Rattle.ob_syntax.specs.Leaves.{leaf, optional, each, ◌⧺◌}
use Rattle.ob_syntax.specs.NameText.{identdef_text}
use Rattle.ob_syntax.specs.TypeText.{formals_text}
use Rattle.ob_syntax.specs.StatementText.{body_text}
use Rattle.ob_syntax.specs.DeclarationText.{decls_text, consts_text, types_text, vars_text, procedure_decl_text, procedure_text, returned_text}
use Rattle.ob_syntax.specs.declared.declarations.Decls.{Decls, out-Decls, roll-out-Decls}
use Rattle.ob_syntax.specs.declared.declarations.ProcedureDecl.{ProcedureDecl, out-ProcedureDecl, roll-out-ProcedureDecl}
use Rattle.ob_syntax.specs.declared.declarations.Procedure.{Procedure, out-Procedure, roll-out-Procedure}
use Rattle.ob_syntax.proofs.DeclarationTexts.{decls_is, procedure_decl_is, procedure_is}

pub decls_parts : (x : Decls) →
    decls_text x
    ≡ optional consts_text (out-Decls x).consts ⧺ optional types_text (out-Decls x).types
    ⧺ optional vars_text (out-Decls x).vars ⧺ each procedure_decl_text (out-Decls x).procedures.items
decls_parts x =
    ap decls_text (sym (roll-out-Decls x))
    ∙ decls_is (out-Decls x).consts (out-Decls x).types (out-Decls x).vars (out-Decls x).procedures

pub procedure_decl_parts : (x : ProcedureDecl) →
    procedure_decl_text x
    ≡ procedure_text (out-ProcedureDecl x).procedure ⧺ leaf G.semicolon (out-ProcedureDecl x).semicolon
procedure_decl_parts x =
    ap procedure_decl_text (sym (roll-out-ProcedureDecl x))
    ∙ procedure_decl_is (out-ProcedureDecl x).procedure (out-ProcedureDecl x).semicolon

pub procedure_parts : (x : Procedure) →
    procedure_text x
    ≡ leaf G.PROCEDURE (out-Procedure x).procedure_word ⧺ identdef_text (out-Procedure x).name
    ⧺ optional formals_text (out-Procedure x).formals ⧺ leaf G.semicolon (out-Procedure x).semicolon
    ⧺ decls_text (out-Procedure x).decls ⧺ optional body_text (out-Procedure x).body
    ⧺ optional returned_text (out-Procedure x).returned ⧺ leaf G.END (out-Procedure x).end_word
    ⧺ leaf G.ident (out-Procedure x).end_name
procedure_parts x =
    ap procedure_text (sym (roll-out-Procedure x))
    ∙ procedure_is (out-Procedure x).procedure_word (out-Procedure x).name (out-Procedure x).formals (out-Procedure x).semicolon (out-Procedure x).decls (out-Procedure x).body (out-Procedure x).returned (out-Procedure x).end_word (out-Procedure x).end_name
