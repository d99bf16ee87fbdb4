-- Procedures of a well-formed program name record types of its table.
use Rattle.std.proofs.Common.{◌≡◌, ℕ, zero, suc, ◌<◌, List, [], ◌∷◌, map, length, true, ◌&&◌, sym, subst, arith}
use Rattle.std.specs.Prelude.{slice_index_or}
use Rattle.std.proofs.lemmas.List.{length-map}
use Rattle.ob_types.specs.Forms.{all}
use Rattle.ob_types.specs.LegalTypes.{formal_legal, types_legal}
use Rattle.ob_types.specs.Meaning.{procedure_of, no_procedure, texts_of}
use Rattle.ob_types.specs.WellFormed.{well_formed, form_of, fine, answer_fine}
use Rattle.ob_types.specs.declared.types.Formal.{Formal}
use Rattle.ob_types.specs.declared.program.Procedure.{Procedure}
use Rattle.ob_types.specs.declared.program.Program.{Program}
use Rattle.ob_types.proofs.Tests.{and_of}
use Rattle.ob_types.proofs.WellFormedParts.{parts_of}
use Rattle.ob_judge.specs.Image as I
use Rattle.judged_tree.specs.TypeShapes.{shape_of}
use Rattle.judged_tree.specs.Plain.{plain_formal, plain_procedure, plain_record}
use Rattle.one_lowering.specs.Forms.{numbered_procedure}
use Rattle.moved_lowering.specs.Within.{AllWithin, FormalsWithin, ProcedureWithin, ProceduresWithin, RecordsWithin}
use Rattle.start_forms.proofs.Shapes.{many, shapes_within, records_within}
use Rattle.start_forms.proofs.Statements.{body_in, answer_in}

module _ (p : Program) (well : well_formed p ≡ true) where
  abbrev n : ℕ
  n = many p.types

  abbrev legal : types_legal p.types ≡ true
  legal = (parts_of p well).legal

  formals_in : (xs : List Formal) → FormalsWithin n (map (plain_formal p.types) xs)
  formals_in [] = tt
  formals_in (x ∷ xs) = (shapes_within p.types legal x.type_number, formals_in xs)

  locals_in : (ks : List ℕ) → AllWithin n (map (shape_of p.types) ks)
  locals_in [] = tt
  locals_in (k ∷ ks) = (shapes_within p.types legal k, locals_in ks)

  -- a procedure's form with the numbers of its uses
  abbrev form : Procedure → I.Procedure
  form q = plain_procedure p.types (numbered_procedure (length (texts_of p.procedures)) q)

  one_in : (f : ℕ) → f < length p.procedures → ProcedureWithin n (form (procedure_of p f))
  one_in f l =
      let q = procedure_of p f in
      let body = all (fine p f) q.body in
      let answer = answer_fine p f (form_of p q.result) q.answer in
      let a = and_of (all (formal_legal p.types) q.formals) (body && answer) ((parts_of p well).procedures f l) in
      let b = and_of body answer a.1 in
      record {
        formals = formals_in q.formals;
        locals = locals_in q.locals;
        body = body_in p legal f q.body b.0;
        answer = answer_in p legal f (form_of p q.result) q.answer b.1;
      }

  all_in : (qs : List Procedure) → ((f : ℕ) → f < length qs → ProcedureWithin n (form (slice_index_or qs f no_procedure))) → ProceduresWithin n (map (plain_procedure p.types) (map (numbered_procedure (length (texts_of p.procedures))) qs))
  all_in [] h = tt
  all_in (q ∷ qs) h = (h zero (omega arith), all_in qs (λ f l. h (suc f) (omega (arith, l))))

  abbrev records : List I.RecordType
  records = map (plain_record p.types) p.types.records

  pub program_within : ProceduresWithin (length records) (map (plain_procedure p.types) (map (numbered_procedure (length (texts_of p.procedures))) p.procedures))
  program_within = subst (λ m. ProceduresWithin m (map (plain_procedure p.types) (map (numbered_procedure (length (texts_of p.procedures))) p.procedures))) (sym (length-map p.types.records (plain_record p.types))) (all_in p.procedures one_in)

  pub table_within : RecordsWithin (length records) records
  table_within = subst (λ m. RecordsWithin m records) (sym (length-map p.types.records (plain_record p.types))) (records_within p.types legal)
