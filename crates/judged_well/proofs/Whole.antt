-- What the judgement makes of a body, and the checked program's.
use Rattle.std.proofs.Common.{◌≡◌, ℕ, List, true, false, not, Option, Some, None, refl, sym, ap, ◌∙◌, subst, zero, suc, ◌<◌, [], ◌∷◌, length, arith}
use Rattle.std.specs.Prelude.{is_some, option_map, nat_lt, slice_get, slice_index_or}
use Rattle.ob_types.specs.declared.types.TypeKind.{TypeKind}
use Rattle.ob_types.specs.declared.types.TypeKind.TheVariants as TheKind
use Rattle.ob_types.specs.declared.statements.Checked.{Checked}
use Rattle.ob_types.specs.declared.statements.Stmt.{Stmt}
use Rattle.ob_types.specs.declared.program.Program.{Program}
use Rattle.ob_types.specs.Layout.{kind_of}
use Rattle.ob_types.specs.Meaning.{procedure_of}
use Rattle.ob_types.specs.WellFormed as W
use Rattle.ob_types.specs.Forms as F
use Rattle.ob_types.specs.Forms.{all, types_fine}
use Rattle.ob_types.proofs.Tests.{no, none_some, some_same, and_of}
use Rattle.ob_sound.proofs.Tables.{extends_self, extends_trans}
use Rattle.ob_syntax.specs.Syntax as S
use Rattle.ob_judge.specs.Judged.{Judged, Keeps}
use Rattle.ob_judge.specs.Shapes.{Shape, Nothing, is_scalar, assignable, base_of}
use Rattle.ob_judge.specs.Image.{Statements}
use Rattle.ob_judge.specs.Image.{Checked as CheckedImage}
use Rattle.ob_judge.specs.Scopes.{World, Source, place}
use Rattle.ob_judge.specs.Operands.{Operand, checked, is_local_code}
use Rattle.ob_judge.specs.Calls.{may_assign, stored}
use Rattle.ob_judge.specs.Symbols.{expression_first}
use Rattle.ob_judge.specs.Parts.{is_nothing}
use Rattle.ob_judge.specs.Expressions.{expression}
use Rattle.ob_judge.specs.Statements.{statements}
use Rattle.ob_judge.specs.Declarations.{answer}
use Rattle.judged_tree.specs.TypeShapes.{shape_of, pointer_bases}
use Rattle.judged_tree.specs.Plain.{plain_checked, plain_body}
use Rattle.judged_tree.specs.Outline.{outlined_checked, outlined_statements}
use Rattle.judged_well.specs.Gives.{Gives}
use Rattle.judged_well.specs.Forms.{Form}
use Rattle.judged_well.specs.Setting.{Setting, IsOrder}
use Rattle.judged_well.specs.Typing.{outline, form, checked_form, given_for, scalar, fine_all}
use Rattle.judged_well.specs.Standing.{is_whole, is_result, IsRead, Stands, good, Right}
use Rattle.judged_well.specs.Answers.{answer_suits}
use Rattle.judged_well.specs.OfProgram.{setting_of, IsFaithful, IsInside}
use Rattle.judged_well.proofs.Judging.{keeps, and_then, by_rule}
use Rattle.judged_well.proofs.Storing.{plain_value, checked_is, t_stored_checked}
use Rattle.judged_well.specs.Standing.{is_plain}
use Rattle.judged_well.proofs.Tree.{t_expression}
use Rattle.judged_well.proofs.Statements.{t_statements}
use Rattle.judged_well.proofs.Entries.{here, is_here}
use Rattle.judged_well.proofs.Forming.{Below, given_is, scalar_is, Relates}
use Rattle.judged_well.proofs.Images.{s_checked}
use Rattle.judged_well.proofs.Bodies.{s_body}
use Rattle.judged_well.proofs.Outlines.{o_checked, o_statements}
use Rattle.ob_judge.specs.Shapes.{Integer}
use Rattle.judged_well.specs.Standing.{near_for}
use Rattle.judged_well.specs.Standing.{value_form}
use Rattle.ob_judge.specs.Operands.{form as form_in_operand}
use Rattle.std.proofs.lemmas.Bool.Decides.{nat_tests}
use Rattle.ob_types.specs.LegalTypes.{is_record_type}
use Rattle.ob_types.specs.Table.{Table}

kept : {A : Type 0} (P : A → Type 0) (m : Judged A) → Gives P m → (a : A) → m ≡ Keeps a → P a
kept P m g a is = (subst (Gives P) is g).holds

-- ---- RETURN

module _ (e : Setting) (order : IsOrder e) (p : Source) (read : IsRead p) (w : World) (right : Right e p w) where
  abbrev Suits : Shape → Option CheckedImage → Type 0
  Suits result o = answer_suits e result o ≡ true

  nothing_is : (s : Shape) → is_nothing s ≡ true → s ≡ Nothing
  nothing_is Nothing h = refl
  nothing_is _ h = no h

  scalar_result : (s : Shape) → is_result s ≡ true → not (is_nothing s) ≡ true → (is_whole s ≡ true) × (is_scalar s ≡ true)
  scalar_result Nothing r h = no h
  scalar_result Integer r h = (refl, refl)
  scalar_result s r h = and_of (is_whole s) (is_scalar s) r

  pub t_answer : (result : Shape) → is_result result ≡ true → good e result ≡ true → (end_word : ℕ) (r : Option S.Returned) → Gives (Suits result) (answer p result end_word r w)
  t_answer result k g end_word None = by_rule 41 (place p end_word) (is_nothing result) (λ h. keeps (Suits result) None (ap (λ s. answer_suits e s None) (nothing_is result h)))
  t_answer result k g end_word (Some r) = and_then (t_expression e order p read w right r.value) (λ x h.
      by_rule 41 (place p r.return_word) (not (is_nothing result)) (λ some.
      by_rule 31 (place p (expression_first r.value)) (may_assign w.known result x) (λ m.
      let s = scalar_result result k some in
      keeps (Suits result) (Some (stored result x)) (t_stored_checked e order p w right result x h s.0 g s.1 (and_of (assignable w.known result x.shape) (not (is_local_code x.what)) m).0))))

-- ---- beside a program

less_test : (n m : ℕ) → n < m → nat_lt n m ≡ true
less_test n m l = grind (arith, nat_tests)

-- what pointer types point to is there
targets_there : (t : Table) (ks : List TypeKind) → ((k r : ℕ) → slice_get ks k ≡ Some (TheKind.Pointer r) → r < length t.records) → (n r : ℕ) → base_of (slice_get (pointer_bases ks) n) ≡ Some r → is_record_type t r ≡ true
targets_there t [] f n r h = none_some r h
targets_there t (TheKind.Pointer q ∷ ks) f zero r h = less_test r (length t.records) (f zero r (ap (λ x. Some (TheKind.Pointer x)) (some_same q r h)))
targets_there t (TheKind.Pointer q ∷ ks) f (suc n) r h = targets_there t ks (λ k x at. f (suc k) x at) n r h
targets_there t (TheKind.Int ∷ ks) f n r h = targets_there t ks (λ k x at. f (suc k) x at) n r h
targets_there t (_ ∷ ks) f n r h = targets_there t ks (λ k x at. f (suc k) x at) n r h

kind_at : (ks : List TypeKind) (k : ℕ) (kind : TypeKind) → slice_get ks k ≡ Some kind → slice_index_or ks k TheKind.Nothing ≡ kind
kind_at [] k kind h = none_some kind h
kind_at (x ∷ ks) zero kind h = some_same x kind h
kind_at (x ∷ ks) (suc k) kind h = kind_at ks k kind h

pub order_of : (p : Program) → IsFaithful p.types → types_fine p.types ≡ true → (at : ℕ) → IsOrder (setting_of p at)
order_of p ok fine at = record {
  self = extends_self p.types fine;
  through = extends_trans p.types fine;
  there = targets_there p.types p.types.kinds (λ k r h. ok.target k r (kind_at p.types.kinds k (TheKind.Pointer r) h));
}

module _ (p : Program) (ok : IsFaithful p.types) (inside : IsInside p) (at : ℕ) where
  abbrev e : Setting
  e = setting_of p at

  abbrev bases : List (Option ℕ)
  bases = pointer_bases p.types.kinds

  abbrev texts : List (List ℕ)
  texts = (procedure_of p at).texts

  pub body_fine : (body : List Stmt) (xs : Statements) → plain_body p.types texts body ≡ outlined_statements bases xs → fine_all e (outline e) xs ≡ true → all (W.fine p at) body ≡ true
  body_fine body xs is h = s_body p ok inside at body (ap (fine_all e (λ s. s)) is ∙ sym (o_statements e bases (λ n. refl) xs) ∙ h)

  checked_below : (x : Checked) (c : CheckedImage) → plain_checked p.types texts x ≡ outlined_checked bases c → Below (Relates p ok inside at) (W.checked_form p at x) (checked_form e (outline e) c)
  checked_below x c is = subst (λ o. Below (Relates p ok inside at) (W.checked_form p at x) o) (ap (checked_form e (λ s. s)) is ∙ sym (o_checked e bases (λ n. refl) c)) (s_checked p ok inside at x)

  there : (o : Option F.Form) (q : Option Form) → Below (Relates p ok inside at) o q → is_some q ≡ true → is_some o ≡ true
  there o None b h = no h
  there None (Some g) b h = absurd b
  there (Some f) (Some g) b h = refl

  near_some : (o q : Option Form) → near_for e o q ≡ true → is_some o ≡ true
  near_some None q h = no h
  near_some (Some f) q h = refl

  -- a whole expression of a type that values have
  pub expression_formed : types_fine p.types ≡ true → (s : Source) → IsRead s → (w : World) → Right e s w → (x : S.Expression) (o : Operand) → expression s w x ≡ Keeps o → is_plain o.shape ≡ true
      → (t : Checked) → plain_checked p.types texts t ≡ outlined_checked bases (checked o) → is_some (W.checked_form p at t) ≡ true
  expression_formed fine s read w right x o is plain t at_t =
      let order = order_of p ok fine at in
      let h = kept (Stands e) (expression s w x) (t_expression e order s read w right x) o is in
      there (W.checked_form p at t) (checked_form e (outline e) (checked o)) (checked_below t (checked o) at_t)
      (ap is_some (checked_is e order o h plain) ∙ near_some (form e (outline e) (form_in_operand o)) (value_form e o.shape) (plain_value e order o h plain))

  pub statements_fine : types_fine p.types ≡ true → (s : Source) → IsRead s → (w : World) → Right e s w → (x : S.Stats) (xs : Statements) → statements s w x ≡ Keeps xs
      → (body : List Stmt) → plain_body p.types texts body ≡ outlined_statements bases xs → all (W.fine p at) body ≡ true
  statements_fine fine s read w right x xs is body at_body =
      body_fine body xs at_body (kept (λ ys. fine_all e (outline e) ys ≡ true) (statements s w x) (t_statements e (order_of p ok fine at) s read w right x) xs is)

  -- no form, no value
  no_form : (k : ℕ) → shape_of p.types k ≡ Nothing → W.form_of p k ≡ None
  no_form k h = by (kind_of p.types k) (sym (is_here p.types ok k) ∙ h)
    where
      by : (kind : TypeKind) → here p.types ok k kind ≡ Nothing → F.scalar_form kind ≡ None
      by TheKind.Nothing h = refl
      by TheKind.Nil h = refl
      by (TheKind.Text n) h = refl
      by (TheKind.Record r) h = refl
      by (TheKind.Array (Some n) a) h = refl
      by (TheKind.Array None a) h = refl
      by _ h = absurd (let z = h in cc)

  answer_formed : (k : ℕ) (x : Checked) (c : CheckedImage) → plain_checked p.types texts x ≡ outlined_checked bases c → given_for e (checked_form e (outline e) c) (scalar e (shape_of p.types k)) ≡ true → W.given_for p (W.checked_form p at x) (W.form_of p k) ≡ true
  answer_formed k x c is h = given_is p ok inside at (W.checked_form p at x) (checked_form e (outline e) c) (W.form_of p k) (scalar e (shape_of p.types k)) (checked_below x c is) (scalar_is p ok inside at k) h

  given_there : (o : Option F.Form) (q : Option F.Form) (x : Checked) → o ≡ W.checked_form p at x → W.given_for p o q ≡ true → W.answer_fine p at q (Some x) ≡ true
  given_there o None x i h = by o h
    where
      by : (o : Option F.Form) → W.given_for p o None ≡ true → false ≡ true
      by None h = h
      by (Some f) h = h
  given_there o (Some f) x i h = ap (λ z. W.given_for p z (Some f)) (sym i) ∙ h

  pub answer_fine : (k : ℕ) (o : Option Checked) (c : Option CheckedImage) → option_map (plain_checked p.types texts) o ≡ option_map (outlined_checked bases) c → answer_suits e (shape_of p.types k) c ≡ true → W.answer_fine p at (W.form_of p k) o ≡ true
  answer_fine k None None is h = ap (λ q. W.answer_fine p at q None) (no_form k (nothing_of (shape_of p.types k) h))
    where
      nothing_of : (s : Shape) → answer_suits e s None ≡ true → s ≡ Nothing
      nothing_of Nothing h = refl
      nothing_of _ h = no h
  answer_fine k (Some x) (Some c) is h = given_there (W.checked_form p at x) (W.form_of p k) x refl (answer_formed k x c (some_same (plain_checked p.types texts x) (outlined_checked bases c) is) h)
  answer_fine k None (Some c) is h = none_some (outlined_checked bases c) is
  answer_fine k (Some x) None is h = none_some (plain_checked p.types texts x) (sym is)

  pub answers_fine : types_fine p.types ≡ true → (s : Source) → IsRead s → (w : World) → Right e s w → (k : ℕ) → is_result (shape_of p.types k) ≡ true → good e (shape_of p.types k) ≡ true
      → (end_word : ℕ) (r : Option S.Returned) (c : Option CheckedImage) → answer s (shape_of p.types k) end_word r w ≡ Keeps c
      → (o : Option Checked) → option_map (plain_checked p.types texts) o ≡ option_map (outlined_checked bases) c → W.answer_fine p at (W.form_of p k) o ≡ true
  answers_fine fine s read w right k result kind end_word r c is o at_o =
      answer_fine k o c at_o (kept (λ x. answer_suits e (shape_of p.types k) x ≡ true) (answer s (shape_of p.types k) end_word r w) (t_answer e (order_of p ok fine at) s read w right (shape_of p.types k) result kind end_word r) c is)
