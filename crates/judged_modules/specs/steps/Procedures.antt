-- The syntax of procedures.
use Rattle.std.specs.Prelude.{ℕ, List, [], ◌∷◌, Option}
use Rattle.ob_syntax.specs.Syntax as S
use Rattle.ob_syntax.specs.declared.names.Identdef.{Identdef}
use Rattle.ob_syntax.specs.declared.declarations.Procedure.{Procedure, Procedure'}
use Rattle.ob_syntax.specs.declared.declarations.ProcedureDecl.{ProcedureDecl, ProcedureDecl'}
use Rattle.ob_syntax.specs.Plain.{plain_option, plain_formals, plain_decls, plain_body, plain_returned}

-- a procedure by itself
pub record OneProcedure : Type 0 where
  pub procedure_word : ℕ
  pub name : Identdef
  pub formals : Option S.Formals
  pub semicolon : ℕ
  pub decls : S.Decls
  pub body : Option S.Body
  pub returned : Option S.Returned
  pub end_word : ℕ
  pub end_name : ℕ

abbrev pub plain_procedure : Procedure → OneProcedure
plain_procedure (Procedure' i name f j d b r k n) = record {
  procedure_word = i;
  name = name;
  formals = plain_option plain_formals f;
  semicolon = j;
  decls = plain_decls d;
  body = plain_option plain_body b;
  returned = plain_option plain_returned r;
  end_word = k;
  end_name = n;
}

-- and those that follow it
abbrev pub with_procedure : OneProcedure → (semicolon : ℕ) → S.Procedures → S.Procedures
with_procedure q last rest = S.procedure q.procedure_word q.name q.formals q.semicolon q.decls q.body q.returned q.end_word q.end_name last rest

abbrev pub plain_each_procedure : List ProcedureDecl → S.Procedures
plain_each_procedure [] = S.no_procedure
plain_each_procedure (ProcedureDecl' q semicolon ∷ rest) = with_procedure (plain_procedure q) semicolon (plain_each_procedure rest)
