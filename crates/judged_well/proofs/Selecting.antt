-- Parts of operands: fields, elements, what pointers point to, guards and type tests.
use Rattle.std.proofs.Common.{◌≡◌, ℕ, ◌^◌, Bool, true, false, ◌&&◌, ◌||◌, Option, Some, None, refl, sym, ap, ap₂, ◌∙◌, subst}
use Rattle.std.specs.Prelude.{if◌then◌else◌, nat_eq, nat_lt, is_some, option_map, slice_get}
use Rattle.ob_types.specs.WellFormed.{provided, holds_of, with_some}
use Rattle.ob_types.proofs.Tests.{no, none_some, some_same, and_of}
use Rattle.ob_judge.specs.Shapes.{Shape, Boolean, Array, Open, Record, Pointer, Field as FieldOf, target_of, extends, is_pointer, is_number, element_of, length_in}
use Rattle.ob_judge.specs.Image.{Expr, Guard, Place, Index, Field, Dereference, Narrow}
use Rattle.ob_judge.specs.Scopes.{World, Source, place, spelled}
use Rattle.ob_judge.specs.Operands.{What, Named as ThePlace, Valued, Use, AsVariable, AsConstant, AsValue, Operand, operand, value, place_in, place_of, is_read_only, is_tagged, length_of, length_by, designator_of}
use Rattle.ob_judge.specs.Operands.{form as form_of}
use Rattle.ob_judge.specs.Parts.{part_of, followed, record_of, fields_of, field, element, target, tested_tag, guard_of, guarded, test_of, tested}
use Rattle.judged_well.specs.Forms.{Form, ToRecord, Truth, Named, Of, Dynamic, is_writable, is_dynamic, gives_number, gives_pointer, pointed}
use Rattle.judged_well.specs.Setting.{Setting, IsOrder}
use Rattle.judged_well.specs.Typing.{outline, form, named, designated, pointer, named_record, has_record, array_of}
use Rattle.judged_well.specs.Standing.{is_whole, Fits, as_whole, as_record, Claims, StandsAs, Stands, IsBegun, IsUsed, FollowsAs, FollowsTo, near_for, value_form, good, FieldStands, Right}
use Rattle.judged_well.specs.Gives.{Gives}
use Rattle.judged_well.proofs.Judging.{keeps, by_rule, by_some}
use Rattle.judged_well.proofs.Values.{value_as, near_pointer}
use Rattle.judged_well.proofs.Places.{compound, only_place, writable, fits_array, fits_open, number_of, follow_place}
use Rattle.judged_well.specs.Standing.{is_compound}

module _ (e : Setting) (order : IsOrder e) (p : Source) (w : World) (right : Right e p w) where
  abbrev Begun : Operand → Type 0
  Begun x = IsBegun e x

  -- a place as an operand, once its parts are known
  pub place_begun : (s : Shape) (d : Place) (r t k : Bool) (n : Named) → named e (outline e) d ≡ Some n → Fits n s → good e s ≡ true → (r ≡ false → is_writable n ≡ true) → (t ≡ true → is_dynamic n ≡ true)
      → IsBegun e (operand s (ThePlace d) (AsVariable r t k))
  place_begun s d r t k n is f g a b = record { stands = record { does = (n, is, f, (a, b)); good = g }; follows = follow_place e order d n s is f g; used = tt }

  -- ---- what a pointer points to

  pub pointer_to : (x : Operand) → IsBegun e x → (r : ℕ) → target_of w.known x.shape ≡ Some r → named e (outline e) (Dereference (form_of x)) ≡ Some (Dynamic r)
  pointer_to x b r is = by x.shape is b.follows
    where
      exact : (o : Option ℕ) (q : Option Form) → FollowsTo e o q → o ≡ Some r → with_some q pointed ≡ Some (Dynamic r)
      exact None q h i = absurd h
      exact (Some k) (Some (ToRecord f)) h i = ap (λ m. Some (Dynamic m)) (h ∙ some_same k r i)
      exact (Some k) _ h i = absurd h

      by : (s : Shape) → target_of w.known s ≡ Some r → FollowsAs e s (form_of x) → named e (outline e) (Dereference (form_of x)) ≡ Some (Dynamic r)
      by (Pointer n) i h = exact (e.target n) (pointer e (outline e) (form_of x)) h (right.targets n r i)
      by _ i h = none_some r i

  pub t_followed : (x : Operand) → IsBegun e x → (r : ℕ) → target_of w.known x.shape ≡ Some r → IsBegun e (followed x r)
  t_followed x b r is = place_begun (Record r) (Dereference (form_of x)) false false false (Dynamic r) (pointer_to x b r is) (as_record r) refl (λ h. refl) (λ h. refl)

  pub t_target : (at : ℕ) (x : Operand) → IsBegun e x → Gives (IsBegun e) (target p w at x)
  t_target at x b = by_some 31 at (target_of w.known x.shape) (λ r is. keeps (IsBegun e) (followed x r) (t_followed x b r is))

  -- ---- fields

  -- the record that a record or a pointer to one has fields of
  abbrev IsRecord : ℕ × Operand → Type 0
  IsRecord r = (n : Named) × (named e (outline e) (place_of r.1) ≡ Some n) × (named_record n ≡ Some r.0) × (is_read_only r.1 ≡ false → is_writable n ≡ true)

  pub own_record : (n : Named) (r : ℕ) → Fits n (Record r) → named_record n ≡ Some r
  own_record n r (as_whole (Record k) x h) = refl
  own_record n r (as_record k) = refl

  whole_record : (x : Operand) → IsBegun e x → (n : ℕ) → x.shape ≡ Record n → IsRecord (n, x)
  whole_record x b n is =
      let at = only_place e order x.shape x.use_ x.what b.stands.does (ap is_compound is) in
      let g = subst (λ k. StandsAs e x.shape x.use_ k) at.1 b.stands.does in
      let used = subst (λ k. IsUsed e x.shape x.use_ k) at.1 b.used in
      (g.0, ap (λ k. named e (outline e) (place_in k)) at.1 ∙ g.1, own_record g.0 n (subst (λ k. Fits g.0 k) is g.2), writable e order x.shape x.use_ at.0 g.0 used g.3)

  t_record : (x : Operand) → IsBegun e x → (r : ℕ × Operand) → record_of p w x ≡ Some r → IsRecord r
  t_record x b r is = by x.shape refl is
    where
      through : (o : Option ℕ) → target_of w.known x.shape ≡ o → elim o as (λ _. Option (ℕ × Operand)) [ Some k ↦ Some (k, followed x k) | None ↦ None ] ≡ Some r → IsRecord r
      through None i h = none_some r h
      through (Some k) i h = subst IsRecord (some_same (k, followed x k) r h) (Dynamic k, pointer_to x b k i, refl, λ z. refl)

      by : (s : Shape) → x.shape ≡ s → elim s as (λ _. Option (ℕ × Operand)) [
        | Record n ↦ Some (n, x)
        | Pointer n ↦ elim (target_of w.known (Pointer n)) as (λ _. Option (ℕ × Operand)) [ Some k ↦ Some (k, followed x k) | None ↦ None ]
        | other ↦ None
      ] ≡ Some r → IsRecord r
      by (Record n) i h = subst IsRecord (some_same (n, x) r h) (whole_record x b n i)
      by (Pointer n) i h = through (target_of w.known (Pointer n)) (ap (λ s. target_of w.known s) i) h
      by _ i h = none_some r h

  -- a field of it
  field_named : (n : Named) (d : Place) (r : ℕ) (f : FieldOf) → named e (outline e) d ≡ Some n → named_record n ≡ Some r → FieldStands e r f → named e (outline e) (Field d f.adder f.number) ≡ Some (Of f.shape (is_writable n))
  field_named n d r f is owner stands =
      ap (λ o. with_some o (λ t. provided (has_record e f.adder t) (option_map (λ s. Of s (is_writable t)) (e.field f.adder f.number)))) is
      ∙ ap₂ (λ b o. provided b (option_map (λ s. Of s (is_writable n)) o)) (ap (λ o. holds_of (λ s. e.extends s f.adder) o) owner ∙ stands.of) stands.there

  pub t_field : (at i : ℕ) (x : Operand) → IsBegun e x → Gives (IsBegun e) (field p w at i x)
  t_field at i x b = by_some 31 at (record_of p w x) (λ r is.
      by_some 30 (place p i) (fields_of (slice_get w.known.records r.0) (spelled p i)) (λ f found.
      by_rule 34 (place p i) (f.exported || nat_eq f.owner w.module_number) (λ seen.
      keeps (IsBegun e) (part_of r.1 f.shape (Field (place_of r.1) f.adder f.number))
      (let h = t_record x b r is in
      let stands = right.fields r.0 (spelled p i) f found in
      place_begun f.shape (Field (place_of r.1) f.adder f.number) (is_read_only r.1) false false (Of f.shape (is_writable h.0)) (field_named h.0 (place_of r.1) r.0 f h.1 h.2 stands) (as_whole f.shape (is_writable h.0) stands.whole) stands.good h.3 (λ z. no z)))))

  -- ---- elements

  element_named : (n : Named) (d : Place) (a : Shape) (m : Option ℕ) (y : Expr) → named e (outline e) d ≡ Some n → array_of a m n ≡ true → gives_number (form e (outline e) y) ≡ true → named e (outline e) (Index d m a y) ≡ Some (Of a (is_writable n))
  element_named n d a m y is array number =
      ap (λ o. with_some o (λ t. provided (array_of a m t) (provided (gives_number (form e (outline e) y)) (Some (Of a (is_writable t)))))) is
      ∙ ap₂ (λ b c. provided b (provided c (Some (Of a (is_writable n))))) array number

  -- an array or an open array of such elements, at a place
  abbrev IsArray : Operand → Shape → Type 0
  IsArray x a = (n : Named) × (named e (outline e) (place_of x) ≡ Some n) × (array_of a (length_of x) n ≡ true) × (is_read_only x ≡ false → is_writable n ≡ true) × (good e a ≡ true) × (is_whole a ≡ true)

  t_array : (x : Operand) → IsBegun e x → (a : Shape) → element_of x.shape ≡ Some a → IsArray x a
  t_array x b a is = by x.shape refl is
    where
      at : (s : Shape) → x.shape ≡ s → is_compound s ≡ true → (m : Option ℕ) → length_in s ≡ m → (good e s ≡ true → (n : Named) → Fits n s → array_of a m n ≡ true) → (good e a ≡ true) → (is_whole a ≡ true) → IsArray x a
      at s i c m long test g whole =
          let d = only_place e order x.shape x.use_ x.what b.stands.does (ap is_compound i ∙ c) in
          let h = subst (λ k. StandsAs e x.shape x.use_ k) d.1 b.stands.does in
          let used = subst (λ k. IsUsed e x.shape x.use_ k) d.1 b.used in
          let length_is : length_of x ≡ m = ap₂ (λ k z. length_by k z) d.1 i ∙ long in
          (h.0, ap (λ k. named e (outline e) (place_in k)) d.1 ∙ h.1, ap (λ k. array_of a k h.0) length_is ∙ test (ap (good e) (sym i) ∙ b.stands.good) h.0 (subst (λ k. Fits h.0 k) i h.2), writable e order x.shape x.use_ d.0 h.0 used h.3, g, whole)

      by : (s : Shape) → x.shape ≡ s → element_of s ≡ Some a → IsArray x a
      by (Array m c) i h =
          let same = some_same c a h in
          let g = ap (good e) (sym i) ∙ b.stands.good in
          let parts = and_of (is_whole c) (good e c) (and_of (nat_lt m (2 ^ 32)) (is_whole c && good e c) g).1 in
          at (Array m c) i refl (Some m) refl (λ ok n f. subst (λ k. array_of k (Some m) n ≡ true) same (fits_array e order n m c f ok)) (subst (λ k. good e k ≡ true) same parts.1) (subst (λ k. is_whole k ≡ true) same parts.0)
      by (Open c) i h =
          let same = some_same c a h in
          let parts = and_of (is_whole c) (good e c) (ap (good e) (sym i) ∙ b.stands.good) in
          at (Open c) i refl None refl (λ ok n f. subst (λ k. array_of k None n ≡ true) same (fits_open e order n c f)) (subst (λ k. good e k ≡ true) same parts.1) (subst (λ k. is_whole k ≡ true) same parts.0)
      by _ i h = none_some a h

  pub t_element : (at at_index : ℕ) (x i : Operand) → IsBegun e x → Stands e i → Gives (IsBegun e) (element at at_index x i)
  t_element at at_index x i b c = by_some 31 at (element_of x.shape) (λ a is.
      by_rule 31 at_index (is_number i.shape) (λ number.
      keeps (IsBegun e) (part_of x a (Index (place_of x) (length_of x) a (form_of i)))
      (let h = t_array x b a is in
      place_begun a (Index (place_of x) (length_of x) a (form_of i)) (is_read_only x) false false (Of a (is_writable h.0)) (element_named h.0 (place_of x) a (length_of x) (form_of i) h.1 h.2 (number_of e order i.shape i.use_ i.what c.does number)) (as_whole a (is_writable h.0) h.5) h.4 h.3 (λ z. no z))))

  -- ---- guards and type tests

  -- the value of a pointer
  pointer_value : (x : Operand) → Stands e x → is_pointer x.shape ≡ true → gives_pointer (form e (outline e) (form_of x)) ≡ true
  pointer_value x h i = by x.shape refl i
    where
      target_there : (o : Option ℕ) → is_some o ≡ true → (r : ℕ) × (o ≡ Some r)
      target_there None g = no g
      target_there (Some r) g = (r, refl)

      by : (s : Shape) → x.shape ≡ s → is_pointer s ≡ true → gives_pointer (form e (outline e) (form_of x)) ≡ true
      by (Pointer n) j k =
          let t = target_there (e.target n) (ap (good e) (sym j) ∙ h.good) in
          let v = near_pointer e (form e (outline e) (form_of x)) t.0 (value_as e order x.shape x.use_ x.what h.does (ToRecord t.0) (ap (value_form e) j ∙ ap (λ o. option_map (λ r. ToRecord r) o) t.1)) in
          ap gives_pointer v.1
      by _ j k = no k

  pointer_followed : (x : Operand) → IsBegun e x → is_pointer x.shape ≡ true → gives_pointer (pointer e (outline e) (form_of x)) ≡ true
  pointer_followed x b i = by x.shape i b.follows
    where
      exact : (o : Option ℕ) (q : Option Form) → FollowsTo e o q → gives_pointer q ≡ true
      exact None q h = absurd h
      exact (Some k) (Some (ToRecord f)) h = refl
      exact (Some k) _ h = absurd h

      by : (s : Shape) → is_pointer s ≡ true → FollowsAs e s (form_of x) → gives_pointer (pointer e (outline e) (form_of x)) ≡ true
      by (Pointer n) j h = exact (e.target n) (pointer e (outline e) (form_of x)) h
      by _ j h = no j

  pub t_guard : (x : Operand) → IsBegun e x → is_pointer x.shape ≡ true → (n r : ℕ) → e.target n ≡ Some r → (u : Use) → IsUsed e (Pointer n) u (Valued (Guard (form_of x) r)) → (k : StandsAs e (Pointer n) u (Valued (Guard (form_of x) r))) → IsBegun e (operand (Pointer n) (Valued (Guard (form_of x) r)) u)
  t_guard x b i n r t u used k = record {
    stands = record { does = k; good = ap (λ o. is_some o) t };
    follows = subst (λ o. FollowsTo e o (pointer e (outline e) (Guard (form_of x) r))) (sym t)
        (subst (λ c. FollowsTo e (Some r) (provided c (provided (gives_pointer (pointer e (outline e) (form_of x))) (Some (ToRecord r))))) (sym (order.there n r t))
        (subst (λ c. FollowsTo e (Some r) (provided c (Some (ToRecord r)))) (sym (pointer_followed x b i)) refl));
    used = used;
  }

  pub guard_value : (x : Operand) → Stands e x → is_pointer x.shape ≡ true → (n r : ℕ) → e.target n ≡ Some r → near_for e (form e (outline e) (Guard (form_of x) r)) (value_form e (Pointer n)) ≡ true
  guard_value x h i n r t =
      subst (λ c. near_for e (provided c (provided (gives_pointer (form e (outline e) (form_of x))) (Some (ToRecord r)))) (value_form e (Pointer n)) ≡ true) (sym (order.there n r t))
      (subst (λ c. near_for e (provided c (Some (ToRecord r))) (value_form e (Pointer n)) ≡ true) (sym (pointer_value x h i))
      (subst (λ o. near_for e (Some (ToRecord r)) (option_map (λ k. ToRecord k) o) ≡ true) (sym t) (order.self r)))

  -- a VAR record parameter, or a guard of one
  abbrev IsTagged : Operand → Type 0
  IsTagged x = (n : Named) × (named e (outline e) (place_of x) ≡ Some n) × (designated e (outline e) (designator_of x) ≡ Some n) × (is_dynamic n ≡ true)

  pub t_tagged : (x : Operand) → Stands e x → is_tagged x ≡ true → is_compound x.shape ≡ true → IsTagged x
  t_tagged x h t c = let d = compound e order x.shape x.use_ x.what h.does c in (d.0, d.2, d.1, claimed x.shape x.what x.use_ d.0 t d.4)
    where
      claimed : (s : Shape) (k : What) (u : Use) (n : Named) → is_tagged (operand s k u) ≡ true → Claims u n → is_dynamic n ≡ true
      claimed s k (AsVariable r t m) n i c = c.1 i
      claimed s k AsConstant n i c = no i
      claimed s k AsValue n i c = no i

  record_only : (n : ℕ) (s : Shape) → extends w.known (Record n) s ≡ true → is_compound s ≡ true
  record_only n (Record r) h = refl
  record_only n _ h = no h

  record_there : (n : ℕ) (s : Shape) → extends w.known (Record n) s ≡ true → e.is_record n ≡ true
  record_there n (Record r) h = right.there n r h
  record_there n _ h = no h

  -- what a guard or a type test asks for
  abbrev IsAsked : Operand → Shape → ℕ → Type 0
  IsAsked x (Pointer n) r = (is_pointer x.shape ≡ true) × (e.target n ≡ Some r)
  IsAsked x (Record n) r = IsTagged x × (n ≡ r) × (e.is_record r ≡ true)
  IsAsked x t r = ⊥

  t_asked : (x : Operand) → Stands e x → (t : Shape) (r : ℕ) → tested_tag p w x t ≡ Some r → IsAsked x t r
  t_asked x h (Pointer n) r is = by (is_pointer x.shape && extends w.known (Pointer n) x.shape) refl is
    where
      by : (c : Bool) → (is_pointer x.shape && extends w.known (Pointer n) x.shape) ≡ c → (if c then target_of w.known (Pointer n) else None) ≡ Some r → (is_pointer x.shape ≡ true) × (e.target n ≡ Some r)
      by true i k = ((and_of (is_pointer x.shape) (extends w.known (Pointer n) x.shape) i).0, right.targets n r k)
      by false i k = none_some r k
  t_asked x h (Record n) r is = by (is_tagged x && extends w.known (Record n) x.shape) refl is
    where
      by : (c : Bool) → (is_tagged x && extends w.known (Record n) x.shape) ≡ c → (if c then Some n else None) ≡ Some r → IsTagged x × (n ≡ r) × (e.is_record r ≡ true)
      by true i k = let g = and_of (is_tagged x) (extends w.known (Record n) x.shape) i in (t_tagged x h g.0 (record_only n x.shape g.1), some_same n r k, subst (λ j. e.is_record j ≡ true) (some_same n r k) (record_there n x.shape g.1))
      by false i k = none_some r k
  t_asked x h _ r is = none_some r is

  narrow_named : (x : Operand) → IsTagged x → (r : ℕ) → e.is_record r ≡ true → named e (outline e) (Narrow (place_of x) r) ≡ Some (Dynamic r)
  narrow_named x h r there = ap (λ c. provided c (provided (holds_of is_dynamic (named e (outline e) (place_of x))) (Some (Dynamic r)))) there ∙ ap (λ o. provided (holds_of is_dynamic o) (Some (Dynamic r))) h.1 ∙ ap (λ c. provided c (Some (Dynamic r))) h.3

  t_guard_of : (x : Operand) → IsBegun e x → (t : Shape) (r : ℕ) → IsAsked x t r → IsBegun e (guard_of x t r)
  t_guard_of x b (Pointer n) r h = t_guard x b h.0 n r h.1 AsValue refl (guard_value x b.stands h.0 n r h.1, tt)
  t_guard_of x b (Record n) r h = place_begun (Record n) (Narrow (place_of x) r) false true false (Dynamic r) (narrow_named x h.0 r h.2) (subst (λ k. Fits (Dynamic r) (Record k)) (sym h.1) (as_record r)) refl (λ z. refl) (λ z. refl)
  t_guard_of x b _ r h = absurd h

  pub t_guarded : (at : ℕ) (x : Operand) (t : Shape) → IsBegun e x → Gives (IsBegun e) (guarded p w at x t)
  t_guarded at x t b = by_some 31 at (tested_tag p w x t) (λ r is. keeps (IsBegun e) (guard_of x t r) (t_guard_of x b t r (t_asked x b.stands t r is)))

  t_test_of : (x : Operand) → Stands e x → (t : Shape) (r : ℕ) → IsAsked x t r → form e (outline e) (test_of x t r) ≡ Some Truth
  t_test_of x b (Pointer n) r h = ap₂ (λ c d. provided c (provided d (Some Truth))) (order.there n r h.1) (pointer_value x b h.0)
  t_test_of x b (Record n) r h = ap₂ (λ c o. provided c (provided (holds_of is_dynamic o) (Some Truth))) h.2 (h.0).2 ∙ ap (λ c. provided c (Some Truth)) (h.0).3
  t_test_of x b _ r h = absurd h

  pub t_tested : (at : ℕ) (x : Operand) (t : Shape) → Stands e x → Gives (Stands e) (tested p w at x t)
  t_tested at x t b = by_some 31 at (tested_tag p w x t) (λ r is. keeps (Stands e) (value Boolean (test_of x t r))
      (record { does = (ap (λ o. near_for e o (Some Truth)) (t_test_of x b t r (t_asked x b t r is)), tt); good = refl }))
