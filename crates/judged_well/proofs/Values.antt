-- Forms of values and of places, from what an operand stands for.
use Rattle.std.proofs.Common.{◌≡◌, ℕ, zero, suc, ◌<◌, ◌^◌, List, [], ◌∷◌, length, Bool, true, false, Option, Some, None, refl, sym, ap, ◌∙◌, subst, arith}
use Rattle.std.specs.Prelude.{nat_lt, option_map, is_some}
use Rattle.std.proofs.lemmas.Bool.Decides.{nat_tests}
use Rattle.ob_types.specs.Forms.{all}
use Rattle.ob_types.specs.WellFormed.{provided, holds_of, with_some}
use Rattle.ob_types.proofs.Tests.{no, none_some, some_same, and_of, and_from}
use Rattle.ob_judge.specs.Shapes.{Shape, Integer, Boolean, Char, Byte, Set, Nil, Nothing, Open, Record, Pointer, Procedure, Formals, same, same_formals}
use Rattle.ob_judge.specs.Shapes.{Text as TextShape}
use Rattle.ob_judge.specs.Image.{Expr, Load, of_type, Place}
use Rattle.ob_judge.specs.Operands.{What, Named as ThePlace, Valued, Chars, Code, Proper, Use, form_in}
use Rattle.judged_tree.proofs.SameShapes.{same-self, formals-self}
use Rattle.judged_well.specs.Forms.{Form, Zero, Truth, Small, Number, ToRecord, Routines, Exactly, Named, is_number, is_small, is_code, literal, literal_by, gives_number, gives_truth}
use Rattle.judged_well.specs.Setting.{Setting, IsOrder}
use Rattle.judged_well.specs.Typing.{is_heading, suits, given_for, scalar, scalar_in, outline, form, named, designated, has_shape, of_shape}
use Rattle.judged_well.specs.Standing.{is_whole, are_characters, Fits, as_done, as_whole, as_open, as_record, near, near_for, value_form, IsValue, StandsAs}

module _ (e : Setting) where
  -- ---- forms

  pub near_suits : (f g : Form) → near e f g ≡ true → suits e f g ≡ true
  near_suits Zero (ToRecord r) h = refl
  near_suits Zero (Routines ps s) h = refl
  near_suits Zero _ h = h
  near_suits _ _ h = h

  pub near_given : (o q : Option Form) → near_for e o q ≡ true → given_for e o q ≡ true
  near_given (Some f) (Some g) h = near_suits f g h
  near_given (Some f) None h = h
  near_given None q h = h

  pub near_number : (o : Option Form) (g : Form) → is_number g ≡ true → near_for e o (Some g) ≡ true → gives_number o ≡ true
  near_number None g i h = h
  near_number (Some f) g i h = by f g i h
    where
      by : (f g : Form) → is_number g ≡ true → near e f g ≡ true → is_number f ≡ true
      by (ToRecord r) Zero i h = no h
      by (ToRecord r) (ToRecord b) i h = no i
      by (ToRecord r) (Routines ps s) i h = no i
      by (ToRecord r) _ i h = no h
      by (Routines ps s) (ToRecord b) i h = no i
      by (Routines ps s) (Routines qs u) i h = no i
      by (Routines ps s) _ i h = no h
      by (Exactly f) (ToRecord b) i h = no i
      by (Exactly f) (Routines qs u) i h = no i
      by (Exactly f) _ i h = no h
      by _ _ i h = refl

  pub near_small : (o : Option Form) → near_for e o (Some Small) ≡ true → holds_of is_small o ≡ true
  near_small None h = h
  near_small (Some Zero) h = refl
  near_small (Some Truth) h = refl
  near_small (Some Small) h = refl
  near_small (Some _) h = no h

  pub near_truth : (o : Option Form) → near_for e o (Some Truth) ≡ true → gives_truth o ≡ true
  near_truth None h = h
  near_truth (Some Zero) h = refl
  near_truth (Some Truth) h = refl
  near_truth (Some _) h = no h

  pub near_zero : (o : Option Form) → near_for e o (Some Zero) ≡ true → o ≡ Some Zero
  near_zero None h = no h
  near_zero (Some Zero) h = refl
  near_zero (Some _) h = no h

  pub near_pointer : (o : Option Form) (b : ℕ) → near_for e o (Some (ToRecord b)) ≡ true → (r : ℕ) × (o ≡ Some (ToRecord r)) × (e.extends r b ≡ true)
  near_pointer None b h = no h
  near_pointer (Some (ToRecord r)) b h = (r, refl, h)
  near_pointer (Some _) b h = no h

  pub near_code : (o : Option Form) (ps : Formals) (s : Shape) → near_for e o (Some (Routines ps s)) ≡ true → holds_of is_code o ≡ true
  near_code None ps s h = h
  near_code (Some (Routines qs u)) ps s h = refl
  near_code (Some (Exactly f)) ps s h = refl
  near_code (Some _) ps s h = no h

  -- a literal

  pub literal_small : (n : ℕ) → n < 256 → near_for e (literal n) (Some Small) ≡ true
  literal_small zero l = refl
  literal_small (suc zero) l = refl
  literal_small (suc (suc n)) l = let t : nat_lt (suc (suc n)) 256 ≡ true = grind (arith, nat_tests) in rw t refl

  pub literal_number : (n : ℕ) → n < 2 ^ 64 → near_for e (literal n) (Some Number) ≡ true
  literal_number zero l = refl
  literal_number (suc zero) l = refl
  literal_number (suc (suc n)) l = let t : nat_lt (suc (suc n)) (2 ^ 64) ≡ true = grind (arith, nat_tests) in by (nat_lt (suc (suc n)) 256) (nat_lt (suc (suc n)) (2 ^ 64)) t
    where
      by : (a b : Bool) → b ≡ true → near_for e (literal_by a b) (Some Number) ≡ true
      by true b h = refl
      by false true h = refl
      by false false h = no h

  -- ---- places

  module _ (order : IsOrder e) where
    pub scalar_near : (s : Shape) (g : Form) → scalar e s ≡ Some g → near_for e (scalar e s) (Some g) ≡ true
    scalar_near Integer g h = let i = some_same Number g h in subst (λ k. near e Number k ≡ true) i refl
    scalar_near Boolean g h = let i = some_same Truth g h in subst (λ k. near e Truth k ≡ true) i refl
    scalar_near Set g h = let i = some_same Number g h in subst (λ k. near e Number k ≡ true) i refl
    scalar_near Char g h = let i = some_same Small g h in subst (λ k. near e Small k ≡ true) i refl
    scalar_near Byte g h = let i = some_same Small g h in subst (λ k. near e Small k ≡ true) i refl
    scalar_near (Pointer n) g h = by (e.target n) h
      where
        by : (o : Option ℕ) → option_map (λ r. ToRecord r) o ≡ Some g → near_for e (option_map (λ r. ToRecord r) o) (Some g) ≡ true
        by None h = none_some g h
        by (Some r) h = subst (λ k. near e (ToRecord r) k ≡ true) (some_same (ToRecord r) g h) (order.self r)
    scalar_near (Procedure ps s) g h = subst (λ k. near e (Routines ps s) k ≡ true) (some_same (Routines ps s) g h) (and_from (same_formals ps ps) (same s s) (formals-self ps) (same-self s))
    scalar_near _ g h = none_some g h

    pub has : (n : Named) (s : Shape) → Fits n s → has_shape e (outline e s) n ≡ true
    has n s as_done = refl
    has n s (as_whole u w h) = same-self (outline e u)
    has n s (as_open a w) = same-self (Open a)
    has n s (as_record r) = same-self (Record r)

    pub designated_is : (d : Place) (s : Shape) (n : Named) → named e (outline e) d ≡ Some n → Fits n s → designated e (outline e) (of_type d s) ≡ Some n
    designated_is d s n is f = ap (λ o. with_some o (of_shape e (outline e s))) is ∙ ap (λ b. provided b (Some n)) (has n s f)

    pub load_is : (d : Place) (s : Shape) (n : Named) → named e (outline e) d ≡ Some n → Fits n s → form e (outline e) (Load (of_type d s)) ≡ scalar_in e n
    load_is d s n is f = ap (λ o. with_some o (scalar_in e)) (designated_is d s n is f)

    whole_value : (s : Shape) → is_whole s ≡ true → value_form e s ≡ scalar e s
    whole_value Nil h = no h
    whole_value (TextShape n) h = no h
    whole_value _ h = refl

    place_value : (n : Named) (s : Shape) → Fits n s → (g : Form) → value_form e s ≡ Some g → near_for e (scalar_in e n) (Some g) ≡ true
    place_value n s as_done g h = subst (λ k. near e Truth k ≡ true) (some_same Truth g h) refl
    place_value n s (as_whole u w i) g h = scalar_near u g (sym (whole_value u i) ∙ h)
    place_value n s (as_open a w) g h = none_some g h
    place_value n s (as_record r) g h = none_some g h

    -- the value of an operand of a scalar type
    is_value : (s : Shape) (x : Expr) → IsValue e s x → (g : Form) → value_form e s ≡ Some g → near_for e (form e (outline e) x) (Some g) ≡ true
    is_value Nothing x h g i = none_some g i
    is_value (TextShape n) x h g i = absurd h
    is_value (Pointer n) x h g i = subst (λ o. near_for e (form e (outline e) x) o ≡ true) i h
    is_value _ x h g i = subst (λ o. near_for e (form e (outline e) x) o ≡ true) i h

    chars_value : (cs : List ℕ) → are_characters cs ≡ true → (s : Shape) → near_for e (form e (outline e) (form_in s (Chars cs))) (Some Small) ≡ true
    chars_value [] h s = refl
    chars_value (c ∷ cs) h s =
        let bytes = (and_of (all (λ c. nat_lt c 256) (c ∷ cs)) (nat_lt (suc (length (c ∷ cs))) (2 ^ 32)) h).0 in
        let first = (and_of (nat_lt c 256) (all (λ c. nat_lt c 256) cs) bytes).0 in
        literal_small c (grind (arith, nat_tests))

    pub value_as : (s : Shape) (u : Use) (what : What) → StandsAs e s u what → (g : Form) → value_form e s ≡ Some g → near_for e (form e (outline e) (form_in s what)) (Some g) ≡ true
    value_as s u (ThePlace d) h g i = subst (λ o. near_for e o (Some g) ≡ true) (sym (load_is d s h.0 h.1 h.2)) (place_value h.0 s h.2 g i)
    value_as s u (Valued x) h g i = is_value s x h.0 g i
    value_as s u (Chars cs) h g i = subst (λ k. near_for e (form e (outline e) (form_in s (Chars cs))) (Some k) ≡ true) (some_same Small g (ap (value_form e) (sym h.0) ∙ i)) (chars_value cs h.1 s)
    value_as s u (Code f l) h g i =
        let ps = h.0 in
        let r = h.1 in
        subst (λ o. near_for e (provided (is_some o) (Some (Exactly f))) (Some g) ≡ true) (sym h.3)
        (subst (λ k. near e (Exactly f) k ≡ true) (some_same (Routines ps r) g (ap (value_form e) (sym h.2) ∙ i))
        (subst (λ o. holds_of (is_heading ps r) o ≡ true) (sym h.3) (and_from (same_formals ps ps) (same r r) (formals-self ps) (same-self r))))
    value_as s u (Proper d) h g i = none_some g (ap (value_form e) (sym h.0) ∙ i)
