-- Values that are stored: in variables, and in value parameters.
use Rattle.std.proofs.Common.{◌≡◌, ℕ, Bool, true, false, ◌&&◌, ◌||◌, Option, Some, None, refl, sym, ap, ◌∙◌, subst, eqb-true}
use Rattle.std.specs.Prelude.{nat_eq, is_some, option_map, slice_get}
use Rattle.ob_types.specs.WellFormed.{provided, holds_of}
use Rattle.ob_types.proofs.Tests.{no, some_same}
use Rattle.ob_judge.specs.Shapes.{Shape, Integer, Boolean, Char, Byte, Set, Nil, Nothing, Pointer, Procedure, Formals, same, same_formals, based_on, base_of, extends, assignable, is_number, is_scalar}
use Rattle.ob_judge.specs.Shapes.{Text as TextShape}
use Rattle.ob_judge.specs.Image.{Expr}
use Rattle.ob_judge.specs.Scopes.{World, Source}
use Rattle.ob_judge.specs.Operands.{Operand, value_shape, checked}
use Rattle.ob_judge.specs.Operands.{form as form_of}
use Rattle.ob_judge.specs.Calls.{stored}
use Rattle.judged_tree.proofs.SameShapes.{same-is}
use Rattle.judged_well.specs.Forms.{Form, Zero, Truth, Small, Number, ToRecord, Routines, is_zero}
use Rattle.judged_well.specs.Setting.{Setting, IsOrder}
use Rattle.judged_well.specs.Typing.{or_zero, given_for, scalar, outline, form, shape_suits, checked_form}
use Rattle.judged_well.specs.Standing.{is_plain}
use Rattle.judged_well.specs.Standing.{is_whole, Stands, near_for, value_form, good, Right}
use Rattle.judged_well.proofs.Values.{near_given, near_pointer, near_zero, value_as}
use Rattle.judged_well.proofs.Places.{number_of}

module _ (e : Setting) (order : IsOrder e) where
  abbrev formed : Expr → Option Form
  formed x = form e (outline e) x

  pub value_there : (s : Shape) → is_plain s ≡ true → good e s ≡ true → (g : Form) × (value_form e s ≡ Some g)
  value_there Integer h g = (Number, refl)
  value_there Boolean h g = (Truth, refl)
  value_there Set h g = (Number, refl)
  value_there Char h g = (Small, refl)
  value_there Byte h g = (Small, refl)
  value_there Nil h g = (Zero, refl)
  value_there (TextShape n) h g = (Small, refl)
  value_there (Procedure ps s) h g = (Routines ps s, refl)
  value_there (Pointer n) h g = by (e.target n) g
    where
      by : (o : Option ℕ) → is_some o ≡ true → (f : Form) × (option_map (λ r. ToRecord r) o ≡ Some f)
      by None g = no g
      by (Some r) g = (ToRecord r, refl)
  value_there _ h g = no h

  pub plain_value : (x : Operand) → Stands e x → is_plain x.shape ≡ true → near_for e (formed (form_of x)) (value_form e x.shape) ≡ true
  plain_value x h i = let t = value_there x.shape i h.good in subst (λ o. near_for e (formed (form_of x)) o ≡ true) (sym t.1) (value_as e order x.shape x.use_ x.what h.does t.0 t.1)

  -- a whole expression has the type that is written beside it
  shape_suits_it : (s : Shape) (o : Option Form) → is_plain s ≡ true → good e s ≡ true → near_for e o (value_form e s) ≡ true → shape_suits e (outline e (value_shape s)) o ≡ true
  shape_suits_it Nil o i g h = ap (holds_of is_zero) (near_zero e o h)
  shape_suits_it (TextShape n) o i g h = near_given e o (Some Small) h
  shape_suits_it (Pointer n) o i g h = by (e.target n) g h
    where
      by : (t : Option ℕ) → is_some t ≡ true → near_for e o (option_map (λ r. ToRecord r) t) ≡ true → given_for e o (Some (ToRecord (or_zero t))) ≡ true
      by None g h = no g
      by (Some r) g h = near_given e o (Some (ToRecord r)) h
  shape_suits_it Integer o i g h = near_given e o (Some Number) h
  shape_suits_it Boolean o i g h = near_given e o (Some Truth) h
  shape_suits_it Set o i g h = near_given e o (Some Number) h
  shape_suits_it Char o i g h = near_given e o (Some Small) h
  shape_suits_it Byte o i g h = near_given e o (Some Small) h
  shape_suits_it (Procedure ps s) o i g h = near_given e o (Some (Routines ps s)) h
  shape_suits_it _ o i g h = no i

  pub checked_is : (x : Operand) → Stands e x → is_plain x.shape ≡ true → checked_form e (outline e) (checked x) ≡ formed (form_of x)
  checked_is x h i = ap (λ b. provided b (formed (form_of x))) (shape_suits_it x.shape (formed (form_of x)) i h.good (plain_value x h i))

  small_number : (o : Option Form) → near_for e o (Some Small) ≡ true → given_for e o (Some Number) ≡ true
  small_number None h = h
  small_number (Some Zero) h = refl
  small_number (Some Truth) h = refl
  small_number (Some Small) h = refl
  small_number (Some _) h = no h

  module _ (p : Source) (w : World) (right : Right e p w) where
    -- what may be assigned to a scalar type

    from_number : (t s : Shape) → is_number t ≡ true → assignable w.known t s ≡ true → is_number s ≡ true
    from_number Integer Integer n h = refl
    from_number Integer Byte n h = refl
    from_number Integer _ n h = no h
    from_number Byte Integer n h = refl
    from_number Byte Byte n h = refl
    from_number Byte _ n h = no h
    from_number _ s n h = no n

    -- pointers: an extension's record extends the other's
    pointer_extends : (n m : ℕ) → good e (Pointer n) ≡ true → assignable w.known (Pointer n) (Pointer m) ≡ true → (a b : ℕ) → e.target n ≡ Some a → e.target m ≡ Some b → e.extends b a ≡ true
    pointer_extends n m g h a b i j = by (nat_eq n m) refl h
      where
        found : (o q : Option ℕ) → base_of (slice_get w.known.bases m) ≡ o → base_of (slice_get w.known.bases n) ≡ q → based_on w.known o q ≡ true → e.extends b a ≡ true
        found (Some x) (Some y) k l t = subst (λ c. e.extends c a ≡ true) (some_same x b (sym (right.targets m x k) ∙ j)) (subst (λ c. e.extends x c ≡ true) (some_same y a (sym (right.targets n y l) ∙ i)) (right.extends x y t))
        found (Some x) None k l t = no t
        found None q k l t = no t

        or_no : (b : Bool) → ((b || false)) ≡ true → b ≡ true
        or_no true h = h
        or_no false h = h

        by : (c : Bool) → nat_eq n m ≡ c → ((c || extends w.known (Pointer m) (Pointer n)) || false) ≡ true → e.extends b a ≡ true
        by true is t = subst (λ c. e.extends c a ≡ true) (some_same a b (sym i ∙ ap (λ k. e.target k) (eqb-true n m is) ∙ j)) (order.self a)
        by false is t = found (base_of (slice_get w.known.bases m)) (base_of (slice_get w.known.bases n)) refl refl (or_no (based_on w.known (base_of (slice_get w.known.bases m)) (base_of (slice_get w.known.bases n))) t)

    there : (o : Option ℕ) → is_some o ≡ true → (r : ℕ) × (o ≡ Some r)
    there None g = no g
    there (Some r) g = (r, refl)

    to_pointer : (x : Operand) → Stands e x → (n : ℕ) → good e (Pointer n) ≡ true → assignable w.known (Pointer n) x.shape ≡ true → given_for e (formed (form_of x)) (scalar e (Pointer n)) ≡ true
    to_pointer x h n g a = let t = there (e.target n) g in subst (λ o. given_for e (formed (form_of x)) (option_map (λ r. ToRecord r) o) ≡ true) (sym t.1) (by x.shape refl a t.0 t.1)
      where
        by : (s : Shape) → x.shape ≡ s → assignable w.known (Pointer n) s ≡ true → (r : ℕ) → e.target n ≡ Some r → given_for e (formed (form_of x)) (Some (ToRecord r)) ≡ true
        by Nil i a r t = ap (λ o. given_for e o (Some (ToRecord r))) (near_zero e (formed (form_of x)) (value_as e order x.shape x.use_ x.what h.does Zero (ap (value_form e) i)))
        by (Pointer m) i a r t =
            let b = there (e.target m) (ap (good e) (sym i) ∙ h.good) in
            let v = near_pointer e (formed (form_of x)) b.0 (value_as e order x.shape x.use_ x.what h.does (ToRecord b.0) (ap (value_form e) i ∙ ap (λ o. option_map (λ r. ToRecord r) o) b.1)) in
            ap (λ o. given_for e o (Some (ToRecord r))) v.1 ∙ order.through v.0 b.0 r v.2 (pointer_extends n m g a r b.0 t b.1)
        by _ i a r t = no a

    to_procedure : (x : Operand) → Stands e x → (ps : Formals) (s : Shape) → assignable w.known (Procedure ps s) x.shape ≡ true → given_for e (formed (form_of x)) (Some (Routines ps s)) ≡ true
    to_procedure x h ps s a = by x.shape refl a
      where
        or_no : (b : Bool) → ((b || false) || false) ≡ true → b ≡ true
        or_no true h = refl
        or_no false h = h

        by : (u : Shape) → x.shape ≡ u → assignable w.known (Procedure ps s) u ≡ true → given_for e (formed (form_of x)) (Some (Routines ps s)) ≡ true
        by Nil i a = ap (λ o. given_for e o (Some (Routines ps s))) (near_zero e (formed (form_of x)) (value_as e order x.shape x.use_ x.what h.does Zero (ap (value_form e) i)))
        by (Procedure qs u) i a =
            let is = same-is (Procedure ps s) (Procedure qs u) (or_no (same_formals ps qs && same s u) a) in
            near_given e (formed (form_of x)) (Some (Routines ps s)) (value_as e order x.shape x.use_ x.what h.does (Routines ps s) (ap (value_form e) (i ∙ sym is)))
        by _ i a = no a

    -- the value as it is stored suits the variable's type
    pub t_stored : (t : Shape) (x : Operand) → Stands e x → is_whole t ≡ true → good e t ≡ true → is_scalar t ≡ true → assignable w.known t x.shape ≡ true → given_for e (formed (stored t x).form) (scalar e t) ≡ true
    t_stored Integer x h i g c a = by x.shape refl (from_number Integer x.shape refl a)
      where
        by : (s : Shape) → x.shape ≡ s → is_number s ≡ true → given_for e (formed (form_of x)) (Some Number) ≡ true
        by Integer j n = near_given e (formed (form_of x)) (Some Number) (value_as e order x.shape x.use_ x.what h.does Number (ap (value_form e) j))
        by Byte j n = small_number (formed (form_of x)) (value_as e order x.shape x.use_ x.what h.does Small (ap (value_form e) j))
        by _ j n = no n
    t_stored Byte x h i g c a = ap (λ b. given_for e (provided b (Some Small)) (Some Small)) (number_of e order x.shape x.use_ x.what h.does (from_number Byte x.shape refl a))
    t_stored Boolean x h i g c a = by x.shape refl a
      where
        by : (s : Shape) → x.shape ≡ s → assignable w.known Boolean s ≡ true → given_for e (formed (form_of x)) (Some Truth) ≡ true
        by Boolean j n = near_given e (formed (form_of x)) (Some Truth) (value_as e order x.shape x.use_ x.what h.does Truth (ap (value_form e) j))
        by _ j n = no n
    t_stored Set x h i g c a = by x.shape refl a
      where
        by : (s : Shape) → x.shape ≡ s → assignable w.known Set s ≡ true → given_for e (formed (form_of x)) (Some Number) ≡ true
        by Set j n = near_given e (formed (form_of x)) (Some Number) (value_as e order x.shape x.use_ x.what h.does Number (ap (value_form e) j))
        by _ j n = no n
    t_stored Char x h i g c a = by x.shape refl a
      where
        by : (s : Shape) → x.shape ≡ s → assignable w.known Char s ≡ true → given_for e (formed (form_of x)) (Some Small) ≡ true
        by Char j n = near_given e (formed (form_of x)) (Some Small) (value_as e order x.shape x.use_ x.what h.does Small (ap (value_form e) j))
        by (TextShape m) j n = near_given e (formed (form_of x)) (Some Small) (value_as e order x.shape x.use_ x.what h.does Small (ap (value_form e) j))
        by _ j n = no n
    t_stored (Pointer n) x h i g c a = to_pointer x h n g a
    t_stored (Procedure ps s) x h i g c a = to_procedure x h ps s a
    t_stored Nil x h i g c a = no i
    t_stored Nothing x h i g c a = no i
    t_stored (TextShape n) x h i g c a = no i
    t_stored _ x h i g c a = no c

    -- what may be assigned to a scalar type is a plain value
    scalar_plain : (t s : Shape) → is_whole t ≡ true → is_scalar t ≡ true → assignable w.known t s ≡ true → is_plain s ≡ true
    scalar_plain t Integer i c a = refl
    scalar_plain t Boolean i c a = refl
    scalar_plain t Char i c a = refl
    scalar_plain t Byte i c a = refl
    scalar_plain t Set i c a = refl
    scalar_plain t Nil i c a = refl
    scalar_plain t (TextShape n) i c a = refl
    scalar_plain t (Pointer n) i c a = refl
    scalar_plain t (Procedure ps s) i c a = refl
    scalar_plain Integer _ i c a = no a
    scalar_plain Boolean _ i c a = no a
    scalar_plain Char _ i c a = no a
    scalar_plain Byte _ i c a = no a
    scalar_plain Set _ i c a = no a
    scalar_plain (Pointer n) _ i c a = no a
    scalar_plain (Procedure ps r) _ i c a = no a
    scalar_plain Nil _ i c a = no i
    scalar_plain Nothing _ i c a = no i
    scalar_plain (TextShape n) _ i c a = no i
    scalar_plain _ _ i c a = no c

    -- and has the type that is written beside it
    pub stored_is : (t : Shape) (x : Operand) → Stands e x → is_whole t ≡ true → is_scalar t ≡ true → assignable w.known t x.shape ≡ true → checked_form e (outline e) (stored t x) ≡ formed (stored t x).form
    stored_is Byte x h i c a = ap (λ b. provided (shape_suits e Byte (provided b (Some Small))) (provided b (Some Small))) (number_of e order x.shape x.use_ x.what h.does (from_number Byte x.shape refl a)) ∙ sym (ap (λ b. provided b (Some Small)) (number_of e order x.shape x.use_ x.what h.does (from_number Byte x.shape refl a)))
    stored_is Integer x h i c a = checked_is x h (scalar_plain Integer x.shape i c a)
    stored_is Boolean x h i c a = checked_is x h (scalar_plain Boolean x.shape i c a)
    stored_is Char x h i c a = checked_is x h (scalar_plain Char x.shape i c a)
    stored_is Set x h i c a = checked_is x h (scalar_plain Set x.shape i c a)
    stored_is (Pointer n) x h i c a = checked_is x h (scalar_plain (Pointer n) x.shape i c a)
    stored_is (Procedure ps s) x h i c a = checked_is x h (scalar_plain (Procedure ps s) x.shape i c a)
    stored_is Nil x h i c a = no i
    stored_is Nothing x h i c a = no i
    stored_is (TextShape n) x h i c a = no i
    stored_is _ x h i c a = no c

    pub t_stored_checked : (t : Shape) (x : Operand) → Stands e x → is_whole t ≡ true → good e t ≡ true → is_scalar t ≡ true → assignable w.known t x.shape ≡ true → given_for e (checked_form e (outline e) (stored t x)) (scalar e t) ≡ true
    t_stored_checked t x h i g c a = subst (λ o. given_for e o (scalar e t) ≡ true) (sym (stored_is t x h i c a)) (t_stored t x h i g c a)
