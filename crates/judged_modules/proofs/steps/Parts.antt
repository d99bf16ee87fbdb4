-- The syntax of declarations, from the parts that code takes out of them.
use Rattle.std.proofs.Common.{◌≡◌, ℕ, List, ◌∷◌, Vec, Global, Option, refl, sym, ap, ◌∙◌}
use Rattle.ob_syntax.specs.Syntax as S
use Rattle.ob_syntax.specs.Plain.{plain_option, plain_consts, plain_types, plain_vars, plain_formals, plain_body, plain_returned, plain_decls, plain_procedures}
use Rattle.ob_syntax.specs.declared.names.Identdef.{Identdef}
use Rattle.ob_syntax.specs.declared.types.Formals.{Formals}
use Rattle.ob_syntax.specs.declared.statements.Body.{Body}
use Rattle.ob_syntax.specs.declared.declarations.Consts.{Consts}
use Rattle.ob_syntax.specs.declared.declarations.Types.{Types}
use Rattle.ob_syntax.specs.declared.declarations.Vars.{Vars}
use Rattle.ob_syntax.specs.declared.declarations.Returned.{Returned}
use Rattle.ob_syntax.specs.declared.declarations.Decls.{Decls, out-Decls, roll-out-Decls, roll-Decls, rolls-Decls', Row_of-ProcedureDecl, end_of-ProcedureDecl, more_of-ProcedureDecl, items-the_row-ProcedureDecl, items_hidden-the_row-ProcedureDecl-0}
use Rattle.ob_syntax.specs.declared.declarations.Procedure.{Procedure, Procedure', out-Procedure, roll-out-Procedure, roll-Procedure, rolls-Procedure'}
use Rattle.ob_syntax.specs.declared.declarations.ProcedureDecl.{ProcedureDecl, ProcedureDecl', out-ProcedureDecl, roll-out-ProcedureDecl, roll-ProcedureDecl, rolls-ProcedureDecl'}
use Rattle.ob_syntax.specs.declared.declarations.Decls.TheBlock.{hidden-the_row-ProcedureDecl-0}
use Rattle.judged_modules.specs.steps.Procedures.{OneProcedure, plain_procedure, with_procedure, plain_each_procedure}

procedures_are : (m : _) (row : Row_of-ProcedureDecl m) → plain_procedures row ≡ plain_each_procedure (items-the_row-ProcedureDecl m row)
procedures_are m end_of-ProcedureDecl = refl
procedures_are m (more_of-ProcedureDecl (ProcedureDecl' (Procedure' i name f j d b r k n) semicolon) rest) =
    ap (with_procedure (plain_procedure (Procedure' i name f j d b r k n)) semicolon) (procedures_are _ rest)

decls_is : (c : Option Consts) (t : Option Types) (v : Option Vars) (procedures : Vec ProcedureDecl Global) → plain_decls (roll-Decls (record { consts = c; types = t; vars = v; procedures = procedures }))
    ≡ S.decls (plain_option plain_consts c) (plain_option plain_types t) (plain_option plain_vars v) (plain_each_procedure procedures.items)
decls_is c t v procedures =
    ap (λ d. plain_decls d) (rolls-Decls' (record { consts = c; types = t; vars = v; procedures = procedures }))
    ∙ ap (S.decls (plain_option plain_consts c) (plain_option plain_types t) (plain_option plain_vars v)) (procedures_are _ (hidden-the_row-ProcedureDecl-0 procedures) ∙ ap (λ ps. plain_each_procedure ps) (items_hidden-the_row-ProcedureDecl-0 procedures))

pub decls_parts : (d : Decls) → plain_decls d ≡ S.decls (plain_option plain_consts (out-Decls d).consts) (plain_option plain_types (out-Decls d).types) (plain_option plain_vars (out-Decls d).vars) (plain_each_procedure (out-Decls d).procedures.items)
decls_parts d = let o = out-Decls d in ap (λ e. plain_decls e) (sym (roll-out-Decls d)) ∙ decls_is o.consts o.types o.vars o.procedures

-- a procedure from its fields
abbrev pub procedure_of : (word : ℕ) → Identdef → Option Formals → (semicolon : ℕ) → Decls → Option Body → Option Returned → (end_word end_name : ℕ) → OneProcedure
procedure_of i name f j d b r k n = record {
  procedure_word = i;
  name = name;
  formals = plain_option plain_formals f;
  semicolon = j;
  decls = plain_decls d;
  body = plain_option plain_body b;
  returned = plain_option plain_returned r;
  end_word = k;
  end_name = n;
}

procedure_is : (i : ℕ) (name : Identdef) (f : Option Formals) (j : ℕ) (d : Decls) (b : Option Body) (r : Option Returned) (k n : ℕ)
    → plain_procedure (roll-Procedure (record { procedure_word = i; name = name; formals = f; semicolon = j; decls = d; body = b; returned = r; end_word = k; end_name = n })) ≡ procedure_of i name f j d b r k n
procedure_is i name f j d b r k n = ap (λ q. plain_procedure q) (rolls-Procedure' (record { procedure_word = i; name = name; formals = f; semicolon = j; decls = d; body = b; returned = r; end_word = k; end_name = n }))

pub procedure_parts : (q : Procedure) → plain_procedure q ≡ (let o = out-Procedure q in procedure_of o.procedure_word o.name o.formals o.semicolon o.decls o.body o.returned o.end_word o.end_name)
procedure_parts q = let o = out-Procedure q in ap (λ x. plain_procedure x) (sym (roll-out-Procedure q)) ∙ procedure_is o.procedure_word o.name o.formals o.semicolon o.decls o.body o.returned o.end_word o.end_name

each_is : (q : Procedure) (semicolon : ℕ) (rest : List ProcedureDecl) → plain_each_procedure (roll-ProcedureDecl (record { procedure = q; semicolon = semicolon }) ∷ rest) ≡ with_procedure (plain_procedure q) semicolon (plain_each_procedure rest)
each_is q semicolon rest = ap (λ x. plain_each_procedure (x ∷ rest)) (rolls-ProcedureDecl' (record { procedure = q; semicolon = semicolon }))

pub each_parts : (x : ProcedureDecl) (rest : List ProcedureDecl) → plain_each_procedure (x ∷ rest) ≡ with_procedure (plain_procedure (out-ProcedureDecl x).procedure) (out-ProcedureDecl x).semicolon (plain_each_procedure rest)
each_parts x rest = let o = out-ProcedureDecl x in ap (λ y. plain_each_procedure (y ∷ rest)) (sym (roll-out-ProcedureDecl x)) ∙ each_is o.procedure o.semicolon rest
