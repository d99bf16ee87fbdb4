-- What types of a table are, by their shapes.
use Rattle.std.proofs.Common.{◌≡◌, ℕ, List, [], ◌∷◌, map, true, ◌||◌, Some, None, refl, ap, sym, ◌∙◌}
use Rattle.ob_types.specs.declared.types.TypeKind.{TypeKind}
use Rattle.ob_types.specs.declared.types.TypeKind.TheVariants as TheKind
use Rattle.ob_types.specs.Layout.{kind_of}
use Rattle.ob_types.specs.Forms.{all}
use Rattle.ob_types.specs.LegalTypes.{is_scalar_kind, is_no_kind, is_variable_kind, is_variable_type}
use Rattle.ob_types.specs.Table.{Table}
use Rattle.ob_types.proofs.Tests.{no, and_from}
use Rattle.ob_judge.specs.Shapes.{Nothing}
use Rattle.judged_tree.specs.TypeShapes.{shape_of}
use Rattle.judged_well.specs.Standing.{is_whole, is_result}
use Rattle.judged_well.specs.OfProgram.{IsFaithful}
use Rattle.judged_well.proofs.Entries.{here, is_here}
use Rattle.judged_modules.specs.Lists.{Each}

module _ (t : Table) (ok : IsFaithful t) where
  none_by : (k : ℕ) (kind : TypeKind) → here t ok k kind ≡ Nothing → is_no_kind kind ≡ true
  none_by k TheKind.Nothing h = refl
  none_by k TheKind.Int h = absurd (let z = h in cc)
  none_by k (TheKind.Array (Some n) e) h = absurd (let z = h in cc)
  none_by k (TheKind.Array None e) h = absurd (let z = h in cc)
  none_by k _ h = absurd (let z = h in cc)

  pub no_kind : (k : ℕ) → shape_of t k ≡ Nothing → is_no_kind (kind_of t k) ≡ true
  no_kind k h = none_by k (kind_of t k) (sym (is_here t ok k) ∙ h)

  variable_by : (k : ℕ) (kind : TypeKind) → is_whole (here t ok k kind) ≡ true → is_variable_kind kind ≡ true
  variable_by k (TheKind.Array (Some n) e) h = refl
  variable_by k (TheKind.Array None e) h = no h
  variable_by k TheKind.Nil h = no h
  variable_by k TheKind.Nothing h = no h
  variable_by k (TheKind.Text n) h = no h
  variable_by k TheKind.Int h = refl
  variable_by k _ h = refl

  -- a type that variables may have
  pub variable_type : (k : ℕ) → is_whole (shape_of t k) ≡ true → is_variable_type t k ≡ true
  variable_type k h = variable_by k (kind_of t k) (ap is_whole (sym (is_here t ok k)) ∙ h)

  result_by : (k : ℕ) (kind : TypeKind) → is_result (here t ok k kind) ≡ true → (is_scalar_kind kind || is_no_kind kind) ≡ true
  result_by k (TheKind.Array (Some n) e) h = no h
  result_by k (TheKind.Array None e) h = no h
  result_by k (TheKind.Record r) h = no h
  result_by k TheKind.Nil h = no h
  result_by k TheKind.Nothing h = refl
  result_by k (TheKind.Text n) h = no h
  result_by k TheKind.Int h = refl
  result_by k _ h = refl

  pub result_kind : (k : ℕ) → is_result (shape_of t k) ≡ true → (is_scalar_kind (kind_of t k) || is_no_kind (kind_of t k)) ≡ true
  result_kind k h = result_by k (kind_of t k) (ap is_result (sym (is_here t ok k)) ∙ h)

  pub variable_types : (ks : List ℕ) → Each (λ a. is_whole a ≡ true) (map (shape_of t) ks) → all (is_variable_type t) ks ≡ true
  variable_types [] h = refl
  variable_types (k ∷ ks) h = and_from (is_variable_type t k) (all (is_variable_type t) ks) (variable_type k h.0) (variable_types ks h.1)
