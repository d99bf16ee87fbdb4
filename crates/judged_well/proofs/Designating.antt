-- What a checked tree's designators name beside what its image's do.
use Rattle.std.proofs.Common.{◌≡◌, ℕ, ◌<◌, ◌^◌, length, Bool, true, false, ◌&&◌, ◌==◌, Option, Some, None, refl, sym, ap, ◌∙◌, subst, eq-eqb}
use Rattle.std.specs.Prelude.{nat_eq, nat_lt, slice_get}
use Rattle.ob_types.specs.declared.types.TypeKind.{TypeKind}
use Rattle.ob_types.specs.declared.types.TypeKind.TheVariants as TheKind
use Rattle.ob_types.specs.declared.types.Signature.{Signature}
use Rattle.ob_types.specs.declared.program.Program.{Program}
use Rattle.ob_types.specs.Layout.{kind_of}
use Rattle.ob_types.specs.Meaning.{length_of_kind, element_kind, record_of_kind, is_byte}
use Rattle.ob_types.specs.WellFormed as W
use Rattle.ob_types.specs.WellFormed.{provided, holds_of, with_some}
use Rattle.ob_types.specs.Forms as F
use Rattle.ob_types.proofs.Tests.{no, none_some, some_same, and_of, and_from}
use Rattle.ob_judge.specs.Shapes.{Shape, Nothing, Nil, Open, Record, same, same_formals}
use Rattle.judged_tree.specs.TypeShapes.{formals_shape, formals_in, result_in, shapes_of, shape_of, shape_of_kind}
use Rattle.judged_tree.proofs.SameShapes.{same-is, formals-are}
use Rattle.judged_well.specs.Forms.{Named, InDone, Of, OpenOf, Dynamic, Characters, Elementary, OfType, Letter, is_writable, is_dynamic}
use Rattle.judged_well.specs.Typing.{or_zero, is_char, is_boolean, is_string, length_of_shape, element_in, record_in, is_element, is_letter, element_by, elements_in, array_of, is_text, any_array, record_by, open_element, named_record, has_record, has_shape, of_shape, outline, scalar_in}
use Rattle.judged_well.specs.Typing.{is_byte as is_byte_shape}
use Rattle.judged_well.specs.OfProgram.{IsFaithful, IsInside}
use Rattle.judged_well.proofs.Entries.{here, is_here, one_number, base_here, signature_there}
use Rattle.judged_well.proofs.Forming.{Below, below_holds, truth_form, set, Relates, scalar_is}
use Rattle.ob_types.specs.Layout.{extends as extends_record}
use Rattle.ob_judge.specs.Shapes.{none}
use Rattle.judged_well.proofs.Forming.{below_provided}

module _ (p : Program) (ok : IsFaithful p.types) (inside : IsInside p) (at : ℕ) where
  abbrev shape : ℕ → Shape
  shape k = shape_of p.types k

  -- what is named, and what that is by shapes
  pub data IsNamed : W.Named → Named → Type 0 where
    named_done : IsNamed (W.Cells F.Truth false) InDone
    named_of : (k : ℕ) → (w : Bool) → k < length p.types.kinds → IsNamed (W.Of k w) (Of (shape_of p.types k) w)
    named_open : (a : ℕ) → (w : Bool) → (shape_of p.types a ≡ Nothing → ⊥) → IsNamed (W.OpenOf a w) (OpenOf (shape_of p.types a) w)
    named_dynamic : (r : ℕ) → IsNamed (W.Dynamic r) (Dynamic r)
    named_characters : (n : ℕ) → IsNamed (W.Characters n) (Characters n)

  pub writable_is : (d : W.Named) (c : Named) → IsNamed d c → is_writable c ≡ W.is_writable d
  writable_is d c named_done = refl
  writable_is d c (named_of k w l) = refl
  writable_is d c (named_open a w l) = refl
  writable_is d c (named_dynamic r) = refl
  writable_is d c (named_characters n) = refl

  pub dynamic_is : (d : W.Named) (c : Named) → IsNamed d c → is_dynamic c ≡ true → W.is_dynamic p d ≡ true
  dynamic_is d c named_done h = no h
  dynamic_is d c (named_of k w l) h = no h
  dynamic_is d c (named_open a w l) h = no h
  dynamic_is d c (named_dynamic r) h = refl
  dynamic_is d c (named_characters n) h = no h

  pub scalar_named : (d : W.Named) (c : Named) → IsNamed d c → Below (Relates p ok inside at) (W.scalar_in p d) (scalar_in (set p ok inside at) c)
  scalar_named d c named_done = truth_form
  scalar_named d c (named_of k w l) = scalar_is p ok inside at k
  scalar_named d c (named_open a w l) = tt
  scalar_named d c (named_dynamic r) = tt
  scalar_named d c (named_characters n) = tt

  -- ---- tests on a type

  pub char_is : (k : ℕ) → is_char (shape k) ≡ true → W.is_char (kind_of p.types k) ≡ true
  char_is k h = by (kind_of p.types k) (ap is_char (sym (is_here p.types ok k)) ∙ h)
    where
      by : (kind : TypeKind) → is_char (here p.types ok k kind) ≡ true → W.is_char kind ≡ true
      by TheKind.Char h = refl
      by (TheKind.Array (Some n) a) h = no h
      by (TheKind.Array None a) h = no h
      by _ h = no h

  pub record_of_shape : (k r : ℕ) → record_by (shape k) ≡ Some r → W.record_by (kind_of p.types k) ≡ Some r
  record_of_shape k r h = by (kind_of p.types k) (ap record_by (sym (is_here p.types ok k)) ∙ h)
    where
      by : (kind : TypeKind) → record_by (here p.types ok k kind) ≡ Some r → W.record_by kind ≡ Some r
      by (TheKind.Record s) h = h
      by (TheKind.Array (Some n) a) h = none_some r h
      by (TheKind.Array None a) h = none_some r h
      by _ h = none_some r h

  -- an open array's element
  pub open_of_shape : (k : ℕ) (s : Shape) → open_element (shape k) ≡ Some s → (a : ℕ) × (W.open_element (kind_of p.types k) ≡ Some a) × (shape a ≡ s) × (shape a ≡ Nothing → ⊥)
  open_of_shape k s h = by (kind_of p.types k) refl (ap open_element (sym (is_here p.types ok k)) ∙ h)
    where
      by : (kind : TypeKind) → kind_of p.types k ≡ kind → open_element (here p.types ok k kind) ≡ Some s → (a : ℕ) × (W.open_element kind ≡ Some a) × (shape a ≡ s) × (shape a ≡ Nothing → ⊥)
      by (TheKind.Array None a) i h = (a, refl, some_same (shape a) s h, ok.element k None a i)
      by (TheKind.Array (Some n) a) i h = none_some s h
      by _ i h = none_some s h

  -- ---- elements

  -- an array's elements, and what they are by shapes
  pub data IsPart : W.Elementary → Elementary → Type 0 where
    part_type : (a : ℕ) → (shape_of p.types a ≡ Nothing → ⊥) → IsPart (W.OfType a) (OfType (shape_of p.types a))
    part_letter : IsPart W.Letter Letter

  below_tested : (c : Bool) (x : W.Elementary) (y : Elementary) → IsPart x y → Below IsPart (provided c (Some x)) (provided c (Some y))
  below_tested true x y h = h
  below_tested false x y h = tt

  element_is_by : (k n : ℕ) → Below IsPart (W.element_by (kind_of p.types k) n) (element_by (shape k) n)
  element_is_by k n = subst (λ s. Below IsPart (W.element_by (kind_of p.types k) n) (element_by s n)) (sym (is_here p.types ok k)) (by (kind_of p.types k) refl)
    where
      by : (kind : TypeKind) → kind_of p.types k ≡ kind → Below IsPart (W.element_by kind n) (element_by (here p.types ok k kind) n)
      by (TheKind.Array (Some m) a) i = below_tested (m == n && nat_lt n (2 ^ 32)) (W.OfType a) (OfType (shape a)) (part_type a (ok.element k (Some m) a i))
      by (TheKind.Array None a) i = tt
      by _ i = tt

  pub elements_is : (d : W.Named) (c : Named) → IsNamed d c → (n : Option ℕ) → Below IsPart (W.elements_in p d n) (elements_in c n)
  elements_is d c named_done n = tt
  elements_is d c (named_of k w l) (Some n) = element_is_by k n
  elements_is d c (named_of k w l) None = tt
  elements_is d c (named_open a w l) (Some n) = tt
  elements_is d c (named_open a w l) None = part_type a l
  elements_is d c (named_dynamic r) n = tt
  elements_is d c (named_characters m) (Some n) = below_tested (m == n && nat_lt n (2 ^ 32)) W.Letter Letter part_letter
  elements_is d c (named_characters m) None = tt

  letter_is : (x : W.Elementary) (y : Elementary) → IsPart x y → is_letter y ≡ true → W.is_letter p x ≡ true
  letter_is x y (part_type a some) h = char_is a h
  letter_is x y part_letter h = refl

  element_is : (k : ℕ) (x : W.Elementary) (y : Elementary) → IsPart x y → is_element y (shape k) ≡ true → W.is_element p x k ≡ true
  element_is k x y (part_type a some) h = eq-eqb a k (one_number p.types ok a k some (same-is (shape a) (shape k) h))
  element_is k x y part_letter h = char_is k h

  element_some : (s : Shape) (y : Elementary) (x : W.Elementary) → IsPart x y → is_element y s ≡ true → s ≡ Nothing → ⊥
  element_some s y x (part_type a some) h i = some (same-is (shape a) s h ∙ i)
  element_some s y x part_letter h i = absurd (let z : false ≡ true = ap is_char (sym i) ∙ h in cc)

  pub array_is : (k : ℕ) (n : Option ℕ) (d : W.Named) (c : Named) → IsNamed d c → array_of (shape k) n c ≡ true → W.array_of p k n d ≡ true
  array_is k n d c h i = below_holds IsPart (W.elements_in p d n) (elements_in c n) (λ x. W.is_element p x k) (λ x. is_element x (shape k)) (elements_is d c h n) (λ x y j. element_is k x y j) i

  -- and the elements' type is one
  pub array_some : (s : Shape) (n : Option ℕ) (d : W.Named) (c : Named) → IsNamed d c → array_of s n c ≡ true → s ≡ Nothing → ⊥
  array_some s n d c h i z = by (W.elements_in p d n) (elements_in c n) (elements_is d c h n) i
    where
      by : (o : Option W.Elementary) (q : Option Elementary) → Below IsPart o q → holds_of (λ x. is_element x s) q ≡ true → ⊥
      by o None b i = no i
      by None (Some y) b i = b
      by (Some x) (Some y) b i = element_some s y x b i z

  pub text_is : (n : Option ℕ) (d : W.Named) (c : Named) → IsNamed d c → is_text n c ≡ true → W.is_text p n d ≡ true
  text_is n d c h i = below_holds IsPart (W.elements_in p d n) (elements_in c n) (W.is_letter p) is_letter (elements_is d c h n) letter_is i

  pub any_is : (n : Option ℕ) (d : W.Named) (c : Named) → IsNamed d c → any_array n c ≡ true → W.any_array p n d ≡ true
  any_is n d c h i = below_holds IsPart (W.elements_in p d n) (elements_in c n) (λ x. true) (λ x. true) (elements_is d c h n) (λ x y j k. refl) i

  -- ---- records

  pub named_record_is : (d : W.Named) (c : Named) → IsNamed d c → (r : ℕ) → named_record c ≡ Some r → W.named_record p d ≡ Some r
  named_record_is d c named_done r i = none_some r i
  named_record_is d c (named_of k w l) r i = record_of_shape k r i
  named_record_is d c (named_open a w l) r i = none_some r i
  named_record_is d c (named_dynamic s) r i = i
  named_record_is d c (named_characters n) r i = none_some r i

  pub has_record_is : (r : ℕ) (d : W.Named) (c : Named) → IsNamed d c → has_record (set p ok inside at) r c ≡ true → W.has_record p r d ≡ true
  has_record_is r d c h i = by (named_record c) refl i
    where
      by : (o : Option ℕ) → named_record c ≡ o → holds_of (λ s. (set p ok inside at).extends s r) o ≡ true → W.has_record p r d ≡ true
      by None j i = no i
      by (Some s) j i = ap (λ o. holds_of (λ x. extends_record p.types x r) o) (named_record_is d c h s j) ∙ i

  -- ---- the type that is written

  pub length_is : (kind : TypeKind) → length_of_kind kind ≡ length_of_shape (shape_of_kind p.types kind)
  length_is (TheKind.Array (Some n) a) = refl
  length_is (TheKind.Array None a) = refl
  length_is TheKind.Int = refl
  length_is _ = refl

  pub record_is : (kind : TypeKind) → record_of_kind kind ≡ record_in (shape_of_kind p.types kind)
  record_is (TheKind.Array (Some n) a) = refl
  record_is (TheKind.Array None a) = refl
  record_is TheKind.Int = refl
  record_is _ = refl

  pub byte_is : (kind : TypeKind) → is_byte kind ≡ is_byte_shape (shape_of_kind p.types kind)
  byte_is (TheKind.Array (Some n) a) = refl
  byte_is (TheKind.Array None a) = refl
  byte_is TheKind.Int = refl
  byte_is _ = refl

  -- elements of the type that is written
  pub written_array_is : (kind : TypeKind) (n : Option ℕ) (d : W.Named) (c : Named) → IsNamed d c → array_of (element_in (shape_of_kind p.types kind)) n c ≡ true → W.array_of p (element_kind kind) n d ≡ true
  written_array_is (TheKind.Array (Some m) a) n d c h i = array_is a n d c h i
  written_array_is (TheKind.Array None a) n d c h i = array_is a n d c h i
  written_array_is TheKind.Int n d c h i = absurd (array_some Nothing n d c h i refl)
  written_array_is _ n d c h i = absurd (array_some Nothing n d c h i refl)

  -- what is named has the type that is written

  numbers_equal : (a b : ℕ) → (shape b ≡ Nothing → ⊥) → same (shape a) (shape b) ≡ true → (a == b) ≡ true
  numbers_equal a b some h = eq-eqb a b (sym (one_number p.types ok b a some (sym (same-is (shape a) (shape b) h))))

  out : Shape → Shape
  out s = outline (set p ok inside at) s

  signed_same : (f g : ℕ) (y : Signature) → slice_get p.types.signatures g ≡ Some y → (o : Option Signature) → slice_get p.types.signatures f ≡ o
      → (same_formals (formals_in (shapes_of p.types) o) (formals_shape (shapes_of p.types) y.formals) && same (result_in (shapes_of p.types) o) (shape y.result)) ≡ true → (f == g) ≡ true
  signed_same f g y j (Some x) i h =
      let ps = formals_shape (shapes_of p.types) x.formals in
      let qs = formals_shape (shapes_of p.types) y.formals in
      let k = and_of (same_formals ps qs) (same (shape x.result) (shape y.result)) h in
      eq-eqb f g (ok.signature f g x y i j (formals-are ps qs k.0) (same-is (shape x.result) (shape y.result) k.1))
  signed_same f g y j None i h = absurd ((ok.result g y j).no_nil (sym (same-is Nil (shape y.result) (and_of (same_formals none (formals_shape (shapes_of p.types) y.formals)) (same Nil (shape y.result)) h).1)))

  kinds_equal : (k : ℕ) (kind f : TypeKind) → kind_of p.types k ≡ f → same (shape_of_kind p.types kind) (outline (set p ok inside at) (here p.types ok k f)) ≡ true → W.equal_kinds kind f ≡ true
  kinds_equal k TheKind.Int TheKind.Int i h = refl
  kinds_equal k TheKind.Bool TheKind.Bool i h = refl
  kinds_equal k TheKind.Char TheKind.Char i h = refl
  kinds_equal k TheKind.Byte TheKind.Byte i h = refl
  kinds_equal k TheKind.Set TheKind.Set i h = refl
  kinds_equal k TheKind.Nil TheKind.Nil i h = refl
  kinds_equal k TheKind.Nothing TheKind.Nothing i h = refl
  kinds_equal k (TheKind.Text n) (TheKind.Text m) i h = h
  kinds_equal k (TheKind.Record n) (TheKind.Record m) i h = h
  kinds_equal k (TheKind.Array (Some n) a) (TheKind.Array (Some m) b) i h = let g = and_of (nat_eq n m) (same (shape a) (shape b)) h in and_from (n == m) (a == b) g.0 (numbers_equal a b (ok.element k (Some m) b i) g.1)
  kinds_equal k (TheKind.Array None a) (TheKind.Array None b) i h = numbers_equal a b (ok.element k None b i) h
  kinds_equal k (TheKind.Pointer r) (TheKind.Pointer s) i h = subst (λ o. nat_eq r (or_zero o) ≡ true) (base_here p.types ok k s i) h
  kinds_equal k (TheKind.Procedure f) (TheKind.Procedure g) i h =
      let y = signature_there p.types ok k g i in
      signed_same f g y.0 y.1 (slice_get p.types.signatures f) refl
      (subst (λ o. (same_formals (formals_in (shapes_of p.types) (slice_get p.types.signatures f)) (formals_in (shapes_of p.types) o) && same (result_in (shapes_of p.types) (slice_get p.types.signatures f)) (result_in (shapes_of p.types) o)) ≡ true) y.1 h)
  kinds_equal k (TheKind.Array (Some n) a) (TheKind.Array None b) i h = no h
  kinds_equal k (TheKind.Array None a) (TheKind.Array (Some m) b) i h = no h
  kinds_equal k (TheKind.Array (Some n) a) f i h = no h
  kinds_equal k (TheKind.Array None a) f i h = no h
  kinds_equal k kind (TheKind.Array (Some n) a) i h = no h
  kinds_equal k kind (TheKind.Array None a) i h = no h
  kinds_equal k _ _ i h = no h

  open_equal : (a : ℕ) → (shape a ≡ Nothing → ⊥) → (kind : TypeKind) → same (shape_of_kind p.types kind) (Open (shape a)) ≡ true → W.equal_kinds kind (TheKind.Array None a) ≡ true
  open_equal a some (TheKind.Array None b) h = numbers_equal b a some h
  open_equal a some (TheKind.Array (Some n) b) h = no h
  open_equal a some TheKind.Int h = no h
  open_equal a some _ h = no h

  record_equal : (r : ℕ) (kind : TypeKind) → same (shape_of_kind p.types kind) (Record r) ≡ true → W.equal_kinds kind (TheKind.Record r) ≡ true
  record_equal r (TheKind.Record s) h = h
  record_equal r (TheKind.Array (Some n) b) h = no h
  record_equal r (TheKind.Array None b) h = no h
  record_equal r _ h = no h

  string_equal : (n : ℕ) (kind : TypeKind) → is_string n (shape_of_kind p.types kind) ≡ true → W.is_string n kind ≡ true
  string_equal n (TheKind.Text m) h = h
  string_equal n (TheKind.Array (Some m) b) h = no h
  string_equal n (TheKind.Array None b) h = no h
  string_equal n _ h = no h

  boolean_equal : (kind : TypeKind) → is_boolean (shape_of_kind p.types kind) ≡ true → W.equal_kinds kind TheKind.Bool ≡ true
  boolean_equal TheKind.Bool h = refl
  boolean_equal (TheKind.Array (Some m) b) h = no h
  boolean_equal (TheKind.Array None b) h = no h
  boolean_equal _ h = no h

  has_kind_is : (kind : TypeKind) (d : W.Named) (c : Named) → IsNamed d c → has_shape (set p ok inside at) (shape_of_kind p.types kind) c ≡ true → W.has_kind p kind d ≡ true
  has_kind_is kind d c named_done h = boolean_equal kind h
  has_kind_is kind d c (named_of k w l) h = kinds_equal k kind (kind_of p.types k) refl (subst (λ s. same (shape_of_kind p.types kind) (outline (set p ok inside at) s) ≡ true) (is_here p.types ok k) h)
  has_kind_is kind d c (named_open a w some) h = open_equal a some kind h
  has_kind_is kind d c (named_dynamic r) h = record_equal r kind h
  has_kind_is kind d c (named_characters n) h = string_equal n kind h

  pub of_kind_is : (kind : TypeKind) (d : W.Named) (c : Named) → IsNamed d c → Below IsNamed (W.of_kind p kind d) (of_shape (set p ok inside at) (shape_of_kind p.types kind) c)
  of_kind_is kind d c h = below_provided IsNamed (W.has_kind p kind d) (has_shape (set p ok inside at) (shape_of_kind p.types kind) c) (Some d) (Some c) (has_kind_is kind d c h) (λ i. h)
