-- What is asked of known types is answered alike where more are known.
use Rattle.std.proofs.Common.{◌≡◌, ℕ, ◌&&◌, ◌||◌, not, Option, Some, None, refl, ap, ap₂, ◌∙◌, subst}
use Rattle.std.specs.Prelude.{slice_get, if◌then◌else◌}
use Rattle.ob_types.proofs.Tests.{none_some, some_same}
use Rattle.ob_types.specs.declared.tree.Relation.{Relation}
use Rattle.ob_judge.specs.Shapes.{Shape, Boolean, Char, Set, Nil, Array, Open, Record, Pointer, Procedure, Known, same, contains, line_of, base_of, record_extends, based_on, target_of, extends, assignable, is_number, is_scalar}
use Rattle.ob_judge.specs.Shapes.{Text as TextShape}
use Rattle.ob_judge.specs.Scopes.{World}
use Rattle.ob_judge.specs.Operators.{is_equality, are_ordered, are_texts, are_included, may_equal, may_compare}
use Rattle.ob_judge.specs.Operands.{Operand, is_variable, is_local_code}
use Rattle.ob_judge.specs.Calls.{may_assign, may_name, is_open_text, may_pass}
use Rattle.ob_judge.specs.Cases.{tag_of}
use Rattle.later_types.proofs.Within.{Within, OperandWithin, Ready}

module _ (P : ℕ → Type 0) (n : ℕ) (w : World) (later : Known) (ready : Ready P n w later) where
  abbrev In : Shape → Type 0
  In = Within P n

  record_same : (a b : ℕ) → P a → record_extends later a b ≡ record_extends w.known a b
  record_same a b h = ap (λ o. contains b (line_of o)) (ready.records a h)

  pub target_same : (s : Shape) → In s → target_of later s ≡ target_of w.known s
  target_same (Pointer k) h = ap base_of (ready.bases k h.0)
  target_same _ h = refl

  pub target_there : (s : Shape) (r : ℕ) → target_of w.known s ≡ Some r → P r
  target_there (Pointer k) r is = by (slice_get w.known.bases k) refl is
    where
      by : (o : Option (Option ℕ)) → slice_get w.known.bases k ≡ o → base_of o ≡ Some r → P r
      by (Some (Some m)) at i = subst P (some_same m r i) (ready.targets k m at)
      by (Some None) at i = none_some r i
      by None at i = none_some r i
  target_there _ r is = none_some r is

  based_same : (o u : Option ℕ) → ((r : ℕ) → o ≡ Some r → P r) → based_on later o u ≡ based_on w.known o u
  based_same (Some a) (Some b) h = record_same a b (h a refl)
  based_same _ _ h = refl

  pub extends_same : (a b : Shape) → In a → In b → extends later a b ≡ extends w.known a b
  extends_same (Record a) (Record b) g h = record_same a b g.1
  extends_same (Pointer a) (Pointer b) g h =
      ap₂ (λ o u. based_on later o u) (target_same (Pointer a) g) (target_same (Pointer b) h)
      ∙ based_same (target_of w.known (Pointer a)) (target_of w.known (Pointer b)) (target_there (Pointer a))
  extends_same _ _ g h = refl

  assign_same : (to from : Shape) → In to → In from → assignable later to from ≡ assignable w.known to from
  assign_same Char (TextShape k) g h = refl
  assign_same (Array k Char) (TextShape m) g h = refl
  assign_same (Open Char) (TextShape m) g h = refl
  assign_same (Pointer k) Nil g h = refl
  assign_same (Procedure ps r) Nil g h = refl
  assign_same (Array k a) (Open b) g h = refl
  assign_same (Open a) (Array k b) g h = refl
  assign_same to from g h = ap (λ b. same to from || b || is_number to && is_number from) (extends_same from to h g)

  pub may_assign_same : (to : Shape) (x : Operand) → In to → OperandWithin P n x → may_assign later to x ≡ may_assign w.known to x
  may_assign_same to x g h = ap (λ b. b && not (is_local_code x.what)) (assign_same to x.shape g h)

  pub may_name_same : (t s : Shape) → In s → may_name later t s ≡ may_name w.known t s
  may_name_same (Open a) (Array k b) h = refl
  may_name_same (Open a) (Open b) h = refl
  may_name_same (Record r) (Record s) h = record_same s r h.1
  may_name_same t s h = refl

  pub may_pass_same : (t : Shape) (x : Operand) → In t → OperandWithin P n x → may_pass later t x ≡ may_pass w.known t x
  may_pass_same t x g h = ap₂ (λ a b. is_open_text t x.what || (if is_scalar t then a else is_variable x && b)) (may_assign_same t x g h) (may_name_same t x.shape h)

  equal_same : (a b : Shape) → In a → In b → may_equal later a b ≡ may_equal w.known a b
  equal_same Boolean Boolean g h = refl
  equal_same Set Set g h = refl
  equal_same (Pointer a) (Pointer b) g h = ap₂ (λ x y. x || y) (extends_same (Pointer a) (Pointer b) g h) (extends_same (Pointer b) (Pointer a) h g)
  equal_same (Procedure ps a) (Procedure qs b) g h = refl
  equal_same Nil b g h = refl
  equal_same a Nil g h = refl
  equal_same a b g h = refl

  pub may_compare_same : (r : Relation) (a b : Shape) → In a → In b → may_compare later r a b ≡ may_compare w.known r a b
  may_compare_same r a b g h = ap (λ x. are_ordered a b || are_texts a b || are_included r a b || is_equality r && x) (equal_same a b g h)

  pub tag_same : (s : Shape) → In s → tag_of later s ≡ tag_of w.known s
  tag_same (Record r) h = refl
  tag_same s h = ap (λ o. elim o as (λ _. ℕ) [ Some r ↦ r | None ↦ 0 ]) (target_same s h)
