-- What operands designate.
use Rattle.std.proofs.Common.{◌≡◌, ℕ, suc, ◌^◌, List, length, Bool, true, false, ◌&&◌, ◌==◌, Option, Some, None, refl, sym, ap, ◌∙◌, subst, eq-eqb}
use Rattle.std.specs.Prelude.{nat_lt, is_some, option_map}
use Rattle.ob_types.specs.Forms.{all}
use Rattle.ob_types.specs.WellFormed.{holds_of, with_some}
use Rattle.ob_types.proofs.Tests.{no, and_of}
use Rattle.ob_judge.specs.Shapes.{Shape, Integer, Char, Byte, Array, Open, Record, Pointer, is_pointer, is_number}
use Rattle.ob_judge.specs.Shapes.{Text as TextShape}
use Rattle.ob_judge.specs.Operators.{is_text}
use Rattle.ob_judge.specs.Image.{Load, of_type, Place, Text}
use Rattle.ob_judge.specs.Operands.{What, Named as ThePlace, Valued, Chars, Code, Proper, Use, AsVariable, AsConstant, AsValue, operand, form_in, place_in, is_read_only}
use Rattle.judged_tree.proofs.SameShapes.{same-self}
use Rattle.judged_well.specs.Forms.{Form, ToRecord, Number, Small, Named, gives_number, is_writable}
use Rattle.judged_well.specs.Setting.{Setting, IsOrder}
use Rattle.judged_well.specs.Typing.{scalar_in, outline, form, named, designated, length_of_shape, array_of}
use Rattle.judged_well.specs.Typing.{is_text as names_text}
use Rattle.judged_well.specs.Standing.{is_compound}
use Rattle.judged_well.specs.Standing.{is_whole, are_characters, Fits, as_done, as_whole, as_open, as_record, Claims, ValueClaims, StandsAs, FollowsAs, FollowsTo, IsUsed, near_for, good, IsValue}
use Rattle.judged_well.proofs.Values.{designated_is, value_as, near_number}

module _ (e : Setting) (order : IsOrder e) where
  -- what a designator of an operand names
  abbrev pub Designates : Shape → Use → What → Type 0
  Designates s u what = (n : Named) × (designated e (outline e) (of_type (place_in what) s) ≡ Some n) × (named e (outline e) (place_in what) ≡ Some n) × Fits n s × Claims u n

  pub place_designates : (s : Shape) (u : Use) (what : What) → (n : Named) → named e (outline e) (place_in what) ≡ Some n → Fits n s → Claims u n → Designates s u what
  place_designates s u what n is f c = (n, designated_is e order (place_in what) s n is f, is, f, c)

  -- a variable that isn't a narrowed pointer
  pub unnarrowed : (s : Shape) (r t n : Bool) (what : What) → StandsAs e s (AsVariable r t n) what → n ≡ false → Designates s (AsVariable r t n) what
  unnarrowed s r t n (ThePlace d) h i = place_designates s (AsVariable r t n) (ThePlace d) h.0 h.1 h.2 h.3
  unnarrowed s r t n (Valued x) h i = by s h.1
    where
      by : (s : Shape) → ValueClaims (AsVariable r t n) s → Designates s (AsVariable r t n) (Valued x)
      by (Pointer k) c = no (sym i ∙ c)
      by _ c = absurd c
  unnarrowed s r t n (Chars cs) h i = absurd h.2
  unnarrowed s r t n (Code f l) h i = absurd h.4
  unnarrowed s r t n (Proper d) h i = absurd h.2

  -- a variable that is no pointer
  pub no_pointer : (s : Shape) (r t n : Bool) (what : What) → StandsAs e s (AsVariable r t n) what → is_pointer s ≡ false → Designates s (AsVariable r t n) what
  no_pointer s r t n (ThePlace d) h i = place_designates s (AsVariable r t n) (ThePlace d) h.0 h.1 h.2 h.3
  no_pointer s r t n (Valued x) h i = by s i h.1
    where
      by : (s : Shape) → is_pointer s ≡ false → ValueClaims (AsVariable r t n) s → Designates s (AsVariable r t n) (Valued x)
      by (Pointer k) i c = no (sym i)
      by _ i c = absurd c
  no_pointer s r t n (Chars cs) h i = absurd h.2
  no_pointer s r t n (Code f l) h i = absurd h.4
  no_pointer s r t n (Proper d) h i = absurd h.2

  no_value : (o : Option Form) → near_for e o None ≡ true → ⊥
  no_value None h = no h
  no_value (Some f) h = no h

  -- what has such a type is a place
  pub only_place : (s : Shape) (u : Use) (what : What) → StandsAs e s u what → is_compound s ≡ true → (d : Place) × (what ≡ ThePlace d)
  only_place s u (ThePlace d) h i = (d, refl)
  only_place s u (Valued x) h i = absurd (by s i h.0)
    where
      by : (s : Shape) → is_compound s ≡ true → IsValue e s x → ⊥
      by (Array n a) i v = no_value (form e (outline e) x) v
      by (Open a) i v = no_value (form e (outline e) x) v
      by (Record r) i v = no_value (form e (outline e) x) v
      by _ i v = no i
  only_place s u (Chars cs) h i = no (ap is_compound (sym h.0) ∙ i)
  only_place s u (Code f l) h i = no (ap is_compound (sym h.2) ∙ i)
  only_place s u (Proper d) h i = no (ap is_compound (sym h.0) ∙ i)

  pub compound : (s : Shape) (u : Use) (what : What) → StandsAs e s u what → is_compound s ≡ true → Designates s u what
  compound s u what h i =
      let p = only_place s u what h i in
      let g = subst (λ k. StandsAs e s u k) p.1 h in
      subst (λ k. Designates s u k) (sym p.1) (place_designates s u (ThePlace p.0) g.0 g.1 g.2 g.3)

  -- a place that is used as a variable may be written where it isn't read-only
  pub writable : (s : Shape) (u : Use) (d : Place) (n : Named) → IsUsed e s u (ThePlace d) → Claims u n → is_read_only (operand s (ThePlace d) u) ≡ false → is_writable n ≡ true
  writable s (AsVariable r t k) d n h c i = c.0 i
  writable s AsConstant d n h c i = absurd h
  writable s AsValue d n h c i = absurd h

  -- ---- texts

  chars_text : (cs : List ℕ) → are_characters cs ≡ true → holds_of (names_text (length_of_shape (outline e (TextShape (length cs))))) (designated e (outline e) (of_type (Text cs) (TextShape (length cs)))) ≡ true
  chars_text cs h =
      let parts = and_of (all (λ c. nat_lt c 256) cs) (nat_lt (suc (length cs)) (2 ^ 32)) h in
      let bytes = parts.0 in
      let few = parts.1 in
      let same : (suc (length cs) == suc (length cs)) ≡ true = eq-eqb (suc (length cs)) (suc (length cs)) refl in
      rw bytes (rw same (rw same (rw few refl)))

  fits_text : (n : Named) (s : Shape) → Fits n s → good e s ≡ true → is_text s ≡ true → names_text (length_of_shape (outline e s)) n ≡ true
  fits_text n s as_done g i = no i
  fits_text n s (as_whole (Array m Char) w h) g i =
      let few = (and_of (nat_lt m (2 ^ 32)) true g).0 in
      let same : (m == m) ≡ true = eq-eqb m m refl in
      rw same (rw few refl)
  fits_text n s (as_whole (TextShape m) w h) g i = no h
  fits_text n s (as_whole (Open a) w h) g i = no h
  fits_text n s (as_whole _ w h) g i = no i
  fits_text n s (as_open Char w) g i = refl
  fits_text n s (as_open _ w) g i = no i
  fits_text n s (as_record r) g i = no i

  pub texts : (s : Shape) (u : Use) (what : What) → StandsAs e s u what → good e s ≡ true → is_text s ≡ true
      → holds_of (names_text (length_of_shape (outline e s))) (designated e (outline e) (of_type (place_in what) s)) ≡ true
  texts s u (ThePlace d) h g i = subst (λ o. holds_of (names_text (length_of_shape (outline e s))) o ≡ true) (sym (designated_is e order d s h.0 h.1 h.2)) (fits_text h.0 s h.2 g i)
  texts s u (Valued x) h g i = by s i h.0
    where
      never : (o : Option Form) → near_for e o None ≡ true → false ≡ true
      never None h = h
      never (Some f) h = h

      by : (s : Shape) → is_text s ≡ true → IsValue e s x → holds_of (names_text (length_of_shape (outline e s))) (designated e (outline e) (of_type (place_in (Valued x)) s)) ≡ true
      by (TextShape n) i v = absurd v
      by (Array n Char) i v = no (never (form e (outline e) x) v)
      by (Open Char) i v = no (never (form e (outline e) x) v)
      by _ i v = no i
  texts s u (Chars cs) h g i = subst (λ k. holds_of (names_text (length_of_shape (outline e k))) (designated e (outline e) (of_type (Text cs) k)) ≡ true) (sym h.0) (chars_text cs h.1)
  texts s u (Code f l) h g i = no (ap is_text (sym h.2) ∙ i)
  texts s u (Proper d) h g i = no (ap is_text (sym h.0) ∙ i)

  -- ---- arrays

  pub fits_array : (n : Named) (m : ℕ) (a : Shape) → Fits n (Array m a) → good e (Array m a) ≡ true → array_of a (Some m) n ≡ true
  fits_array n m a (as_whole (Array k b) w h) g =
      let few = (and_of (nat_lt m (2 ^ 32)) (is_whole a && good e a) g).0 in
      let equal : (m == m) ≡ true = eq-eqb m m refl in
      rw equal (rw few (same-self a))

  pub fits_open : (n : Named) (a : Shape) → Fits n (Open a) → array_of a None n ≡ true
  fits_open n a (as_whole (Open b) w h) = no h
  fits_open n a (as_open b w) = same-self a

  -- ---- numbers and pointers

  pub number_of : (s : Shape) (u : Use) (what : What) → StandsAs e s u what → is_number s ≡ true → gives_number (form e (outline e) (form_in s what)) ≡ true
  number_of Integer u what h i = near_number e (form e (outline e) (form_in Integer what)) Number refl (value_as e order Integer u what h Number refl)
  number_of Byte u what h i = near_number e (form e (outline e) (form_in Byte what)) Small refl (value_as e order Byte u what h Small refl)
  number_of _ u what h i = no i

  -- a place is followed
  pub follow_place : (d : Place) (n : Named) (s : Shape) → named e (outline e) d ≡ Some n → Fits n s → good e s ≡ true → FollowsAs e s (Load (of_type d s))
  follow_place d n s is (as_whole (Pointer k) w h) g = subst (λ o. FollowsTo e (e.target k) (with_some o (scalar_in e))) (sym is) (by (e.target k) g)
    where
      by : (o : Option ℕ) → is_some o ≡ true → FollowsTo e o (option_map (λ r. ToRecord r) o)
      by None g = no g
      by (Some r) g = refl
  follow_place d n s is as_done g = tt
  follow_place d n s is (as_whole _ w h) g = tt
  follow_place d n s is (as_open a w) g = tt
  follow_place d n s is (as_record r) g = tt
