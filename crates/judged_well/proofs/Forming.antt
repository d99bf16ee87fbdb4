-- Forms of a checked tree's values beside those of its image's.
use Rattle.std.proofs.Common.{◌≡◌, ℕ, zero, suc, ◌^◌, List, [], ◌∷◌, Bool, true, false, ◌&&◌, ◌||◌, ◌==◌, Option, Some, None, refl, sym, ap₂, ◌∙◌, subst, eq-eqb}
use Rattle.std.specs.Prelude.{if◌then◌else◌, nat_lt, slice_get, slice_index_or, option_map}
use Rattle.ob_types.specs.declared.types.TypeKind.{TypeKind}
use Rattle.ob_types.specs.declared.types.TypeKind.TheVariants as TheKind
use Rattle.ob_types.specs.declared.types.Mode.{Mode}
use Rattle.ob_types.specs.declared.types.Mode.TheVariants as TheMode
use Rattle.ob_types.specs.declared.types.Formal.{Formal}
use Rattle.ob_types.specs.declared.types.Signature.{Signature}
use Rattle.ob_types.specs.declared.program.Program.{Program}
use Rattle.ob_types.specs.Assignable.{same_mode, both_or_neither, same_formal}
use Rattle.ob_types.specs.Assignable.{same_formals as same_by_number}
use Rattle.ob_types.specs.Layout.{kind_of, signature_of}
use Rattle.ob_types.specs.Meaning.{procedure_of}
use Rattle.ob_types.specs.Table.{Table}
use Rattle.ob_types.specs.WellFormed as W
use Rattle.ob_types.specs.WellFormed.{provided, holds_of, with_some, callable}
use Rattle.ob_types.specs.Forms as F
use Rattle.ob_types.proofs.Tests.{no, none_some, some_same, and_of, and_from}
use Rattle.ob_judge.specs.Shapes.{Nil, none, same, same_formals, bool_eq}
use Rattle.judged_tree.specs.TypeShapes.{formals_shape, formals_in, result_in, shapes_of, shape_of, shape_of_kind}
use Rattle.judged_tree.proofs.SameShapes.{same-is, formals-are}
use Rattle.judged_well.specs.Forms.{Form, Zero, Truth, Small, Number, ToRecord, Routines, Exactly, is_number, is_small, is_truth, is_pointer, is_code, is_zero, comparable, literal, literal_by}
use Rattle.judged_well.specs.Setting.{Setting}
use Rattle.judged_well.specs.Typing.{suits, given_for, scalar, written_scalar, is_heading}
use Rattle.judged_well.specs.OfProgram.{setting_of, AreFormals, IsFaithful, IsInside}
use Rattle.judged_well.proofs.Entries.{here, is_here, numbers_there, base_here}
use Rattle.ob_judge.specs.Parameters.{mode_of}
use Rattle.judged_well.proofs.Entries.{signature_there}
use Rattle.judged_well.specs.Typing.{shape_suits}

-- where the second is there, the first is, and they belong together
abbrev pub Below : {A B : Type 0} → (A → B → Type 0) → Option A → Option B → Type 0
Below R o None = Unit {0}
Below R None (Some b) = ⊥
Below R (Some a) (Some b) = R a b

pub below_provided : {A B : Type 0} (R : A → B → Type 0) (a b : Bool) (o : Option A) (q : Option B) → (b ≡ true → a ≡ true) → (b ≡ true → Below R o q) → Below R (provided a o) (provided b q)
below_provided R a false o q h g = tt
below_provided R true true o q h g = g refl
below_provided R false true o q h g = no (h refl)

pub below_with : {A B C D : Type 0} (R : A → B → Type 0) (Q : C → D → Type 0) (o : Option A) (q : Option B) (f : A → Option C) (g : B → Option D) → Below R o q → ((a : A) (b : B) → R a b → Below Q (f a) (g b)) → Below Q (with_some o f) (with_some q g)
below_with R Q o None f g h k = tt
below_with R Q None (Some b) f g h k = absurd h
below_with R Q (Some a) (Some b) f g h k = k a b h

pub below_holds : {A B : Type 0} (R : A → B → Type 0) (o : Option A) (q : Option B) (f : A → Bool) (g : B → Bool) → Below R o q → ((a : A) (b : B) → R a b → g b ≡ true → f a ≡ true) → holds_of g q ≡ true → holds_of f o ≡ true
below_holds R o None f g h k i = no i
below_holds R None (Some b) f g h k i = absurd h
below_holds R (Some a) (Some b) f g h k i = k a b h i

pub and_both : (a b c d : Bool) → (b ≡ true → a ≡ true) → (d ≡ true → c ≡ true) → (b && d) ≡ true → (a && c) ≡ true
and_both a b c d f g h = let k = and_of b d h in and_from a c (f k.0) (g k.1)

module _ (t : Table) where
  -- a form, and what it is by shapes
  pub data IsForm : F.Form → Form → Type 0 where
    zero_form : IsForm F.Zero Zero
    truth_form : IsForm F.Truth Truth
    small_form : IsForm F.Small Small
    number_form : IsForm F.Number Number
    record_form : (r : ℕ) → IsForm (F.ToRecord r) (ToRecord r)
    routines_form : (k : ℕ) → (x : Signature) → slice_get t.signatures k ≡ Some x → IsForm (F.Routines k) (Routines (formals_shape (shapes_of t) x.formals) (shape_of t x.result))
    exactly_form : (f : ℕ) → IsForm (F.Exactly f) (Exactly f)

  pub number_is : (f : F.Form) (g : Form) → IsForm f g → is_number g ≡ true → W.is_number f ≡ true
  number_is f g zero_form h = refl
  number_is f g truth_form h = refl
  number_is f g small_form h = refl
  number_is f g number_form h = refl
  number_is f g (record_form r) h = no h
  number_is f g (routines_form k x i) h = no h
  number_is f g (exactly_form k) h = no h

  pub small_is : (f : F.Form) (g : Form) → IsForm f g → is_small g ≡ true → W.is_small f ≡ true
  small_is f g zero_form h = refl
  small_is f g truth_form h = refl
  small_is f g small_form h = refl
  small_is f g number_form h = no h
  small_is f g (record_form r) h = no h
  small_is f g (routines_form k x i) h = no h
  small_is f g (exactly_form k) h = no h

  pub truth_is : (f : F.Form) (g : Form) → IsForm f g → is_truth g ≡ true → W.is_truth f ≡ true
  truth_is f g zero_form h = refl
  truth_is f g truth_form h = refl
  truth_is f g small_form h = no h
  truth_is f g number_form h = no h
  truth_is f g (record_form r) h = no h
  truth_is f g (routines_form k x i) h = no h
  truth_is f g (exactly_form k) h = no h

  pub pointer_is : (f : F.Form) (g : Form) → IsForm f g → is_pointer g ≡ true → W.is_pointer f ≡ true
  pointer_is f g zero_form h = refl
  pointer_is f g truth_form h = no h
  pointer_is f g small_form h = no h
  pointer_is f g number_form h = no h
  pointer_is f g (record_form r) h = refl
  pointer_is f g (routines_form k x i) h = no h
  pointer_is f g (exactly_form k) h = no h

  pub zero_is : (f : F.Form) (g : Form) → IsForm f g → is_zero g ≡ true → W.is_zero f ≡ true
  zero_is f g zero_form h = refl
  zero_is f g truth_form h = no h
  zero_is f g small_form h = no h
  zero_is f g number_form h = no h
  zero_is f g (record_form r) h = no h
  zero_is f g (routines_form k x i) h = no h
  zero_is f g (exactly_form k) h = no h

  same_classes : (f : F.Form) (g : Form) → IsForm f g → (is_number g ≡ W.is_number f) × (is_pointer g ≡ W.is_pointer f) × (is_code g ≡ W.is_code f)
  same_classes f g zero_form = (refl, refl, refl)
  same_classes f g truth_form = (refl, refl, refl)
  same_classes f g small_form = (refl, refl, refl)
  same_classes f g number_form = (refl, refl, refl)
  same_classes f g (record_form r) = (refl, refl, refl)
  same_classes f g (routines_form k x i) = (refl, refl, refl)
  same_classes f g (exactly_form k) = (refl, refl, refl)

  pub comparable_is : (r : _) (a : F.Form) (b : Form) (c : F.Form) (d : Form) → IsForm a b → IsForm c d → comparable r b d ≡ true → W.comparable r a c ≡ true
  comparable_is r a b c d h k i =
      let x = same_classes a b h in
      let y = same_classes c d k in
      let numbers = ap₂ (λ m n. m && n) (sym x.0) (sym y.0) in
      let pointers = ap₂ (λ m n. m && n) (sym x.1) (sym y.1) in
      let codes = ap₂ (λ m n. m && n) (sym x.2) (sym y.2) in
      ap₂ (λ m n. m || W.is_equality r && n) numbers (ap₂ (λ m n. m || n) pointers codes) ∙ i

  pub literal_is : (n : ℕ) → Below IsForm (W.literal n) (literal n)
  literal_is zero = zero_form
  literal_is (suc zero) = truth_form
  literal_is (suc (suc n)) = by (nat_lt (suc (suc n)) 256) (nat_lt (suc (suc n)) (2 ^ 64))
    where
      by : (a b : Bool) → Below IsForm (W.literal_by a b) (literal_by a b)
      by true b = small_form
      by false true = number_form
      by false false = tt

  -- ---- parameters

  bool_same : (a b : Bool) → bool_eq a b ≡ true → a ≡ b
  bool_same true b h = sym h
  bool_same false true h = no h
  bool_same false false h = refl

  both_self : (b : Bool) → both_or_neither b b ≡ true
  both_self true = refl
  both_self false = refl

  mode_self : (m : Mode) → same_mode m m ≡ true
  mode_self TheMode.Value = refl
  mode_self TheMode.Place = refl
  mode_self TheMode.Record = refl
  mode_self TheMode.Open = refl

  module _ (ok : IsFaithful t) where
    pub formals_numbers : (xs ys : List Formal) → AreFormals t xs → AreFormals t ys → same_formals (formals_shape (shapes_of t) xs) (formals_shape (shapes_of t) ys) ≡ true → same_by_number (λ a b. a == b) xs ys ≡ true
    formals_numbers [] [] a b h = refl
    formals_numbers [] (y ∷ ys) a b h = no h
    formals_numbers (x ∷ xs) [] a b h = no h
    formals_numbers (x ∷ xs) (y ∷ ys) a b h =
        let g = and_of (bool_eq x.variable y.variable && same (shape_of t x.type_number) (shape_of t y.type_number)) (same_formals (formals_shape (shapes_of t) xs) (formals_shape (shapes_of t) ys)) h in
        let f = and_of (bool_eq x.variable y.variable) (same (shape_of t x.type_number) (shape_of t y.type_number)) g.0 in
        let v = bool_same x.variable y.variable f.0 in
        let s = same-is (shape_of t x.type_number) (shape_of t y.type_number) f.1 in
        let modes : x.mode ≡ y.mode = a.1 ∙ ap₂ (λ u k. mode_of u k) v s ∙ sym b.1 in
        and_from (same_formal (λ a b. a == b) x y) (same_by_number (λ a b. a == b) xs ys)
        (and_from (same_mode x.mode y.mode) (both_or_neither x.variable y.variable && (x.type_number == y.type_number)) (subst (λ m. same_mode x.mode m ≡ true) modes (mode_self x.mode))
        (and_from (both_or_neither x.variable y.variable) (x.type_number == y.type_number) (subst (λ u. both_or_neither x.variable u ≡ true) v (both_self x.variable)) (numbers_there t ok x.type_number y.type_number a.0 b.0 f.1)))
        (formals_numbers xs ys a.2 b.2 g.1)

    pub signature_is : (k : ℕ) (x : Signature) → slice_get t.signatures k ≡ Some x → signature_of t k ≡ x
    signature_is k x i = found t.signatures k i
      where
        found : (xs : List Signature) (k : ℕ) → slice_get xs k ≡ Some x → slice_index_or xs k (record { formals = []; result = 0 }) ≡ x
        found [] k i = none_some x i
        found (y ∷ ys) zero i = some_same y x i
        found (y ∷ ys) (suc k) i = found ys k i

    signatures_same : (k l : ℕ) (x y : Signature) → slice_get t.signatures k ≡ Some x → slice_get t.signatures l ≡ Some y
        → (same_formals (formals_shape (shapes_of t) x.formals) (formals_shape (shapes_of t) y.formals) && same (shape_of t x.result) (shape_of t y.result)) ≡ true → (k == l) ≡ true
    signatures_same k l x y i j h =
        let ps = formals_shape (shapes_of t) x.formals in
        let qs = formals_shape (shapes_of t) y.formals in
        let g = and_of (same_formals ps qs) (same (shape_of t x.result) (shape_of t y.result)) h in
        eq-eqb k l (ok.signature k l x y i j (formals-are ps qs g.0) (same-is (shape_of t x.result) (shape_of t y.result) g.1))

module _ (p : Program) (ok : IsFaithful p.types) (inside : IsInside p) (at : ℕ) where
  abbrev pub set : Setting
  set = setting_of p at

  abbrev pub Relates : F.Form → Form → Type 0
  Relates = IsForm p.types

  -- ---- a declared procedure is of a procedure type

  of_type : (f l : ℕ) (y : Signature) → slice_get p.types.signatures l ≡ Some y → suits set (Exactly f) (Routines (formals_shape (shapes_of p.types) y.formals) (shape_of p.types y.result)) ≡ true → W.is_of_type p f l ≡ true
  of_type f l y j h = by (callable p f) refl h
    where
      by : (c : Bool) → callable p f ≡ c → holds_of (is_heading (formals_shape (shapes_of p.types) y.formals) (shape_of p.types y.result)) (if c then Some (formals_shape (shapes_of p.types) (procedure_of p f).formals, shape_of p.types (procedure_of p f).result) else None) ≡ true → W.is_of_type p f l ≡ true
      by false i h = no h
      by true i h =
          let own = formals_shape (shapes_of p.types) (procedure_of p f).formals in
          let want = formals_shape (shapes_of p.types) y.formals in
          let g = and_of (same_formals own want) (same (shape_of p.types (procedure_of p f).result) (shape_of p.types y.result)) h in
          let is = signature_is p.types ok l y j in
          and_from (callable p f) (same_by_number (λ a b. a == b) (procedure_of p f).formals (signature_of p.types l).formals && ((procedure_of p f).result == (signature_of p.types l).result)) i
          (subst (λ z. (same_by_number (λ a b. a == b) (procedure_of p f).formals z.formals && ((procedure_of p f).result == z.result)) ≡ true) (sym is)
          (and_from (same_by_number (λ a b. a == b) (procedure_of p f).formals y.formals) ((procedure_of p f).result == y.result)
          (formals_numbers p.types ok (procedure_of p f).formals y.formals (inside.formals f) (ok.formals l y j) g.0)
          (numbers_there p.types ok (procedure_of p f).result y.result (inside.result f).there (ok.result l y j).there g.1)))

  pub suits_is : (f : F.Form) (f₁ : Form) (g : F.Form) (g₁ : Form) → Relates f f₁ → Relates g g₁ → suits set f₁ g₁ ≡ true → W.suits p f g ≡ true
  suits_is f f₁ g g₁ zero_form zero_form h = refl
  suits_is f f₁ g g₁ zero_form truth_form h = refl
  suits_is f f₁ g g₁ zero_form small_form h = refl
  suits_is f f₁ g g₁ zero_form number_form h = refl
  suits_is f f₁ g g₁ zero_form (record_form r) h = refl
  suits_is f f₁ g g₁ zero_form (routines_form k x i) h = refl
  suits_is f f₁ g g₁ truth_form truth_form h = refl
  suits_is f f₁ g g₁ truth_form small_form h = refl
  suits_is f f₁ g g₁ truth_form number_form h = refl
  suits_is f f₁ g g₁ small_form small_form h = refl
  suits_is f f₁ g g₁ small_form number_form h = refl
  suits_is f f₁ g g₁ number_form number_form h = refl
  suits_is f f₁ g g₁ (record_form r) (record_form b) h = h
  suits_is f f₁ g g₁ (routines_form k x i) (routines_form l y j) h = signatures_same p.types ok k l x y i j h
  suits_is f f₁ g g₁ (exactly_form c) (routines_form l y j) h = of_type c l y j h
  suits_is f f₁ g g₁ _ _ h = no h

  pub given_is : (o : Option F.Form) (o₁ : Option Form) (q : Option F.Form) (q₁ : Option Form) → Below Relates o o₁ → Below Relates q q₁ → given_for set o₁ q₁ ≡ true → W.given_for p o q ≡ true
  given_is o None q q₁ a b h = no h
  given_is o (Some f) q None a b h = no h
  given_is None (Some f) q (Some g) a b h = absurd a
  given_is (Some x) (Some f) None (Some g) a b h = absurd b
  given_is (Some x) (Some f) (Some y) (Some g) a b h = suits_is x f y g a b h

  -- ---- the form of a type

  pub scalar_is : (k : ℕ) → Below Relates (W.form_of p k) (scalar set (shape_of p.types k))
  scalar_is k = subst (λ s. Below Relates (W.form_of p k) (scalar set s)) (sym (is_here p.types ok k)) (by (kind_of p.types k) refl)
    where
      by : (kind : TypeKind) → kind_of p.types k ≡ kind → Below Relates (F.scalar_form kind) (scalar set (here p.types ok k kind))
      by TheKind.Int i = number_form
      by TheKind.Bool i = truth_form
      by TheKind.Char i = small_form
      by TheKind.Byte i = small_form
      by TheKind.Set i = number_form
      by (TheKind.Pointer r) i = subst (λ o. Below Relates (Some (F.ToRecord r)) (option_map (λ x. ToRecord x) o)) (sym (base_here p.types ok k r i)) (record_form r)
      by (TheKind.Procedure g) i =
          let x = signature_there p.types ok k g i in
          subst (λ o. Below Relates (Some (F.Routines g)) (Some (Routines (formals_in (shapes_of p.types) o) (result_in (shapes_of p.types) o)))) (sym x.1) (routines_form g x.0 x.1)
      by (TheKind.Array (Some n) a) i = tt
      by (TheKind.Array None a) i = tt
      by _ i = tt

  -- ---- a type that is written

  given_none : (o : Option Form) → given_for set o None ≡ true → false ≡ true
  given_none None h = h
  given_none (Some f) h = h

  -- a procedure type without a signature takes nothing but NIL
  unsigned_type : (f : F.Form) (f₁ : Form) (g : ℕ) → Relates f f₁ → suits set f₁ (Routines none Nil) ≡ true → W.suits p f (F.Routines g) ≡ true
  unsigned_type f f₁ g zero_form h = refl
  unsigned_type f f₁ g (routines_form k x i) h =
      absurd ((ok.result k x i).no_nil (same-is (shape_of p.types x.result) Nil (and_of (same_formals (formals_shape (shapes_of p.types) x.formals) none) (same (shape_of p.types x.result) Nil) h).1))
  unsigned_type f f₁ g (exactly_form c) h = by (callable p c) h
    where
      by : (b : Bool) → holds_of (is_heading none Nil) (if b then Some (formals_shape (shapes_of p.types) (procedure_of p c).formals, shape_of p.types (procedure_of p c).result) else None) ≡ true → W.suits p (F.Exactly c) (F.Routines g) ≡ true
      by false h = no h
      by true h = absurd ((inside.result c).no_nil (same-is (shape_of p.types (procedure_of p c).result) Nil (and_of (same_formals (formals_shape (shapes_of p.types) (procedure_of p c).formals) none) (same (shape_of p.types (procedure_of p c).result) Nil) h).1))
  unsigned_type f f₁ g truth_form h = no h
  unsigned_type f f₁ g small_form h = no h
  unsigned_type f f₁ g number_form h = no h
  unsigned_type f f₁ g (record_form r) h = no h

  pub given_written : (o : Option F.Form) (o₁ : Option Form) → Below Relates o o₁ → (kind : TypeKind) → given_for set o₁ (written_scalar set (shape_of_kind p.types kind)) ≡ true → W.given_for p o (F.scalar_form kind) ≡ true
  given_written o o₁ b TheKind.Int h = given_is o o₁ (Some F.Number) (Some Number) b number_form h
  given_written o o₁ b TheKind.Bool h = given_is o o₁ (Some F.Truth) (Some Truth) b truth_form h
  given_written o o₁ b TheKind.Char h = given_is o o₁ (Some F.Small) (Some Small) b small_form h
  given_written o o₁ b TheKind.Byte h = given_is o o₁ (Some F.Small) (Some Small) b small_form h
  given_written o o₁ b TheKind.Set h = given_is o o₁ (Some F.Number) (Some Number) b number_form h
  given_written o o₁ b (TheKind.Pointer r) h = given_is o o₁ (Some (F.ToRecord r)) (Some (ToRecord r)) b (record_form r) h
  given_written o o₁ b (TheKind.Procedure g) h = by (slice_get p.types.signatures g) refl o o₁ b h
    where
      by : (q : Option Signature) → slice_get p.types.signatures g ≡ q → (o : Option F.Form) (o₁ : Option Form) → Below Relates o o₁ → given_for set o₁ (Some (Routines (formals_in (shapes_of p.types) q) (result_in (shapes_of p.types) q))) ≡ true → W.given_for p o (Some (F.Routines g)) ≡ true
      by (Some x) i o o₁ b h = given_is o o₁ (Some (F.Routines g)) (Some (Routines (formals_shape (shapes_of p.types) x.formals) (shape_of p.types x.result))) b (routines_form g x i) h
      by None i o None b h = no h
      by None i None (Some f) b h = absurd b
      by None i (Some x) (Some f) b h = unsigned_type x f g b h
  given_written o o₁ b (TheKind.Array (Some n) a) h = no (given_none o₁ h)
  given_written o o₁ b (TheKind.Array None a) h = no (given_none o₁ h)
  given_written o o₁ b _ h = no (given_none o₁ h)

  pub kind_suits_is : (o : Option F.Form) (o₁ : Option Form) → Below Relates o o₁ → (kind : TypeKind) → shape_suits set (shape_of_kind p.types kind) o₁ ≡ true → W.kind_suits p kind o ≡ true
  kind_suits_is o o₁ b TheKind.Nil h = below_holds Relates o o₁ W.is_zero is_zero b (zero_is p.types) h
  kind_suits_is o o₁ b (TheKind.Array (Some n) a) h = given_written o o₁ b (TheKind.Array (Some n) a) h
  kind_suits_is o o₁ b (TheKind.Array None a) h = given_written o o₁ b (TheKind.Array None a) h
  kind_suits_is o o₁ b TheKind.Int h = given_written o o₁ b TheKind.Int h
  kind_suits_is o o₁ b kind h = given_written o o₁ b kind h
