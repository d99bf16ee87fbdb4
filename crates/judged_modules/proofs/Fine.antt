-- A procedure of a checked program is well-formed where its image is.
use Rattle.std.proofs.Common.{◌≡◌, ℕ, List, [], ◌∷◌, map, Bool, true, false, ◌&&◌, Some, None, refl, ap, sym, ◌∙◌, subst}
use Rattle.ob_types.specs.declared.types.TypeKind.{TypeKind}
use Rattle.ob_types.specs.declared.types.TypeKind.TheVariants as TheKind
use Rattle.ob_types.specs.declared.types.Formal.{Formal as FormalOf}
use Rattle.ob_types.specs.declared.program.Program.{Program}
use Rattle.ob_types.specs.Layout.{kind_of}
use Rattle.ob_types.specs.Table.{Table}
use Rattle.ob_types.specs.Meaning.{procedure_of}
use Rattle.ob_types.specs.Forms.{all}
use Rattle.ob_types.specs.LegalTypes.{mode_fits, formal_legal}
use Rattle.ob_types.specs.WellFormed as W
use Rattle.ob_types.proofs.Tests.{no, and_from}
use Rattle.ob_judge.specs.Image.{Procedure}
use Rattle.ob_judge.specs.Parameters.{mode_of}
use Rattle.judged_tree.specs.TypeShapes.{pointer_bases}
use Rattle.judged_tree.specs.Plain.{plain_formal, plain_procedure}
use Rattle.judged_tree.specs.Outline.{outlined_procedure}
use Rattle.judged_well.specs.Standing.{is_formal}
use Rattle.judged_well.specs.OfProgram.{setting_of, IsFaithful, IsInside}
use Rattle.judged_well.proofs.Entries.{here, is_here}
use Rattle.judged_well.proofs.Whole.{body_fine, answer_fine}
use Rattle.judged_modules.specs.Final.{final_of}
use Rattle.judged_modules.specs.Made.{IsParameter, AreParameters, IsWell}

module _ (t : Table) (ok : IsFaithful t) where
  -- a parameter that is handed over as its shape is is so as its type is
  pub mode_of_kind : (k : ℕ) (v : Bool) (kind : TypeKind) → is_formal (here t ok k kind) ≡ true → mode_fits (mode_of v (here t ok k kind)) v kind ≡ true
  mode_of_kind k true TheKind.Int h = refl
  mode_of_kind k false TheKind.Int h = refl
  mode_of_kind k true TheKind.Bool h = refl
  mode_of_kind k false TheKind.Bool h = refl
  mode_of_kind k true TheKind.Char h = refl
  mode_of_kind k false TheKind.Char h = refl
  mode_of_kind k true TheKind.Byte h = refl
  mode_of_kind k false TheKind.Byte h = refl
  mode_of_kind k true TheKind.Set h = refl
  mode_of_kind k false TheKind.Set h = refl
  mode_of_kind k true (TheKind.Array (Some n) e) h = refl
  mode_of_kind k false (TheKind.Array (Some n) e) h = refl
  mode_of_kind k true (TheKind.Array None e) h = refl
  mode_of_kind k false (TheKind.Array None e) h = refl
  mode_of_kind k true (TheKind.Record r) h = refl
  mode_of_kind k false (TheKind.Record r) h = refl
  mode_of_kind k true (TheKind.Pointer r) h = refl
  mode_of_kind k false (TheKind.Pointer r) h = refl
  mode_of_kind k true (TheKind.Procedure g) h = refl
  mode_of_kind k false (TheKind.Procedure g) h = refl
  mode_of_kind k v TheKind.Nil h = no h
  mode_of_kind k v TheKind.Nothing h = no h
  mode_of_kind k v (TheKind.Text n) h = no h

module _ (p : Program) (ok : IsFaithful p.types) (inside : IsInside p) where
  legal_formal : (x : FormalOf) → IsParameter (final_of p) (plain_formal p.types x) → formal_legal p.types x ≡ true
  legal_formal x h =
      let shape = is_here p.types ok x.type_number in
      subst (λ m. mode_fits m x.variable (kind_of p.types x.type_number) ≡ true) (sym (h.0 ∙ ap (mode_of x.variable) shape))
      (mode_of_kind p.types ok x.type_number x.variable (kind_of p.types x.type_number) (ap is_formal (sym shape) ∙ h.1))

  legal_formals : (xs : List FormalOf) → AreParameters (final_of p) (map (plain_formal p.types) xs) → all (formal_legal p.types) xs ≡ true
  legal_formals [] h = refl
  legal_formals (x ∷ xs) h = and_from (formal_legal p.types x) (all (formal_legal p.types) xs) (legal_formal x h.0) (legal_formals xs h.1)

  pub procedure_well : (f : ℕ) (q : Procedure) → IsWell (final_of p) f q → plain_procedure p.types (procedure_of p f) ≡ outlined_procedure (pointer_bases p.types.kinds) q → W.procedure_fine p f ≡ true
  procedure_well f q well same =
      let r = procedure_of p f in
      let rest = all (W.fine p f) r.body && W.answer_fine p f (W.form_of p r.result) r.answer in
      and_from (all (formal_legal p.types) r.formals) rest
      (legal_formals r.formals (subst (AreParameters (final_of p)) (sym (ap (λ x. x.formals) same)) well.formals))
      (and_from (all (W.fine p f) r.body) (W.answer_fine p f (W.form_of p r.result) r.answer)
      (body_fine p ok inside f r.body q.body (ap (λ x. x.body) same) well.body)
      (answer_fine p ok inside f r.result r.answer q.answer (ap (λ x. x.answer) same) (subst (λ a. Rattle.judged_well.specs.Answers.answer_suits (setting_of p f) a q.answer ≡ true) (sym (ap (λ x. x.result) same)) well.answer)))
