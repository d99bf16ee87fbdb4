-- What acts come to where their parts give values or trap.
use Rattle.std.proofs.Common.{◌≡◌, ℕ, Bool, true, false, ◌&&◌, Option, Some, None, cond, refl, sym, ap, ap₂, ◌∙◌, subst}
use Rattle.std.specs.Prelude.{bit_or, option_map, if◌then◌else◌}
use Rattle.run_laws.specs.Turns.{◌>>=◌, give}
use Rattle.wrapping_numbers.specs.Sets.{has}
use Rattle.ob_types.specs.Store.{Cell, Bits, Act, trap, bits, given, unless}
use Rattle.ob_types.specs.Expressions.{one_operand, quotient, two_operands, both, either, compared, contained, with_element, with_range, as_byte}
use Rattle.ob_types.specs.Operators.{truth, holds, inside, elements, unary_of, binary_of, relation_of, related}
use Rattle.ob_types.specs.declared.tree.Unary.{Unary}
use Rattle.ob_types.specs.declared.tree.Binary.{Binary}
use Rattle.ob_types.specs.declared.tree.Relation.{Relation}
use Rattle.ob_judge.specs.Operands.{of_one, of_two, element_only, both_of, either_of}
use Rattle.text_laws.specs.constants.Folding.{IsMeant}

module _ (f : ℕ) where
  -- what is said of an act is said of one that is the same
  pub meant_as : (b : Bool) (o : Option ℕ) {x y : Act Cell} → x ≡ y → IsMeant f b o y → IsMeant f b o x
  meant_as b (Some n) e m = e ∙ m
  meant_as true None e m = (m.0, e ∙ m.1)
  meant_as false None e m = tt

  -- an act that traps
  traps : (b : Bool) (kind : ℕ) {x : Act Cell} → x ≡ trap f kind → IsMeant f b None x
  traps true kind e = (kind, e)
  traps false kind e = tt

  -- one part, and what comes of its value
  pub one_part : (b : Bool) (o : Option ℕ) (g : ℕ → Option ℕ) (x : Act Cell) (act : Act Cell → Act Cell)
      → ((kind : ℕ) → act (trap f kind) ≡ trap f kind) → ((n : ℕ) → IsMeant f b (g n) (act (give (Bits n)))) → IsMeant f b o x → IsMeant f b (of_one g o) (act x)
  one_part b (Some n) g x act fails values m = meant_as b (g n) (ap act m) (values n)
  one_part true None g x act fails values m = (m.0, ap act m.1 ∙ fails m.0)
  one_part false None g x act fails values m = tt

  pub meant_unary : (b : Bool) (o : Option ℕ) (operator : Unary) (x : Act Cell) → IsMeant f b o x → IsMeant f b (of_one (λ a. Some (unary_of operator a)) o) (one_operand operator x)
  meant_unary b o operator x = one_part b o (λ a. Some (unary_of operator a)) x (one_operand operator) (λ kind. refl) (λ n. refl)

  byte_of : (b : Bool) (n : ℕ) (small : Bool) → IsMeant f b (if small then Some n else None) (unless f 11 small >>= λ _. give (Bits n))
  byte_of b n true = refl
  byte_of b n false = traps b 11 refl

  pub meant_byte : (b : Bool) (o : Option ℕ) (x : Act Cell) → IsMeant f b o x → IsMeant f b (of_one (λ a. if inside a 256 then Some a else None) o) (as_byte f x)
  meant_byte b o x = one_part b o (λ a. if inside a 256 then Some a else None) x (as_byte f) (λ kind. refl) (λ n. byte_of b n (inside n 256))

  -- two parts, one after the other
  pub two_parts : (b c : Bool) (o q : Option ℕ) (g : ℕ → ℕ → Option ℕ) (x y : Act Cell) (act : Act Cell → Act Cell → Act Cell)
      → ((kind : ℕ) (z : Act Cell) → act (trap f kind) z ≡ trap f kind) → ((n kind : ℕ) → (k : ℕ) × (act (give (Bits n)) (trap f kind) ≡ trap f k))
      → ((n m : ℕ) → IsMeant f (b && c) (g n m) (act (give (Bits n)) (give (Bits m)))) → IsMeant f b o x → IsMeant f c q y → IsMeant f (b && c) (of_two g o q) (act x y)
  two_parts b c (Some n) (Some m) g x y act fails late values one two = meant_as (b && c) (g n m) (ap₂ act one two) (values n m)
  two_parts true true (Some n) None g x y act fails late values one two = let l = late n two.0 in (l.0, ap₂ act one two.1 ∙ l.1)
  two_parts true false (Some n) None g x y act fails late values one two = tt
  two_parts false c (Some n) None g x y act fails late values one two = tt
  two_parts true true None q g x y act fails late values one two = (one.0, ap (λ z. act z y) one.1 ∙ fails one.0 y)
  two_parts true false None q g x y act fails late values one two = tt
  two_parts false c None q g x y act fails late values one two = tt

  quotient_of : (b : Bool) (o : Option ℕ) → IsMeant f b o (quotient f o)
  quotient_of b (Some n) = refl
  quotient_of b None = traps b 4 refl

  pub meant_binary : (b c : Bool) (o q : Option ℕ) (operator : Binary) (x y : Act Cell) → IsMeant f b o x → IsMeant f c q y → IsMeant f (b && c) (of_two (binary_of operator) o q) (two_operands f operator x y)
  meant_binary b c o q operator x y = two_parts b c o q (binary_of operator) x y (two_operands f operator) (λ kind z. refl) (λ n kind. (kind, refl)) (λ n m. quotient_of (b && c) (binary_of operator n m))

  pub meant_relation : (b c : Bool) (o q : Option ℕ) (r : Relation) (x y : Act Cell) → IsMeant f b o x → IsMeant f c q y
      → IsMeant f (b && c) (of_two (λ n m. option_map truth (relation_of r (Bits n) (Bits m))) o q) (compared r x y)
  meant_relation b c o q r x y = two_parts b c o q (λ n m. option_map truth (relation_of r (Bits n) (Bits m))) x y (compared r) (λ kind z. refl) (λ n kind. (kind, refl)) (λ n m. refl)

  member_late : (n : ℕ) (fits : Bool) (kind : ℕ) → (k : ℕ) × ((unless f 7 fits >>= λ _. bits (trap f kind) >>= λ s. give (Bits (truth (has s n)))) ≡ trap f k)
  member_late n true kind = (kind, refl)
  member_late n false kind = (7, refl)

  member_of : (b : Bool) (n m : ℕ) (fits : Bool) → IsMeant f b (if fits then Some (truth (has m n)) else None) (unless f 7 fits >>= λ _. bits (give (Bits m)) >>= λ s. give (Bits (truth (has s n))))
  member_of b n m true = refl
  member_of b n m false = traps b 7 refl

  pub meant_member : (b c : Bool) (o q : Option ℕ) (x s : Act Cell) → IsMeant f b o x → IsMeant f c q s
      → IsMeant f (b && c) (of_two (λ n m. element_only n (λ e. Some (truth (has m e)))) o q) (contained f x s)
  meant_member b c o q x s = two_parts b c o q (λ n m. element_only n (λ e. Some (truth (has m e)))) x s (contained f) (λ kind z. refl) (λ n kind. member_late n (inside n 64) kind) (λ n m. member_of (b && c) n m (inside n 64))

  element_of : (b : Bool) (s n : ℕ) (fits : Bool) → IsMeant f b (if fits then Some (bit_or s (elements n n)) else None) (unless f 7 fits >>= λ _. give (Bits (bit_or s (elements n n))))
  element_of b s n true = refl
  element_of b s n false = traps b 7 refl

  pub meant_element : (b c : Bool) (o q : Option ℕ) (s x : Act Cell) → IsMeant f b o s → IsMeant f c q x
      → IsMeant f (b && c) (of_two (λ m n. element_only n (λ e. Some (bit_or m (elements e e)))) o q) (with_element f s x)
  meant_element b c o q s x = two_parts b c o q (λ m n. element_only n (λ e. Some (bit_or m (elements e e)))) s x (with_element f) (λ kind z. refl) (λ n kind. (kind, refl)) (λ m n. element_of (b && c) m n (inside n 64))

  ---- `&` and OR, whose right part may not be evaluated

  choice_and : (c : Bool) (q : Option ℕ) (y : Act Cell) (left : Bool) → IsMeant f c q y → IsMeant f c (if left then q else Some 0) (if left then y else give (Bits 0))
  choice_and c q y true m = m
  choice_and c q y false m = refl

  choice_or : (c : Bool) (q : Option ℕ) (y : Act Cell) (left : Bool) → IsMeant f c q y → IsMeant f c (if left then Some 1 else q) (if left then give (Bits 1) else y)
  choice_or c q y true m = refl
  choice_or c q y false m = m

  weaker : (b c : Bool) (q : Option ℕ) (y : Act Cell) → IsMeant f c q y → IsMeant f (b && c) q y
  weaker true c q y m = m
  weaker false c (Some n) y m = m
  weaker false c None y m = tt

  pub meant_and : (b c : Bool) (o q : Option ℕ) (x y : Act Cell) → IsMeant f b o x → IsMeant f c q y → IsMeant f (b && c) (both_of o q) (both x y)
  meant_and b c (Some n) q x y one two = meant_as (b && c) (if holds n then q else Some 0) (ap (λ z. both z y) one) (weaker b c (if holds n then q else Some 0) (if holds n then y else give (Bits 0)) (choice_and c q y (holds n) two))
  meant_and true true None q x y one two = (one.0, ap (λ z. both z y) one.1)
  meant_and true false None q x y one two = tt
  meant_and false c None q x y one two = tt

  pub meant_or : (b c : Bool) (o q : Option ℕ) (x y : Act Cell) → IsMeant f b o x → IsMeant f c q y → IsMeant f (b && c) (either_of o q) (either x y)
  meant_or b c (Some n) q x y one two = meant_as (b && c) (if holds n then Some 1 else q) (ap (λ z. either z y) one) (weaker b c (if holds n then Some 1 else q) (if holds n then give (Bits 1) else y) (choice_or c q y (holds n) two))
  meant_or true true None q x y one two = (one.0, ap (λ z. either z y) one.1)
  meant_or true false None q x y one two = tt
  meant_or false c None q x y one two = tt

  ---- A range of elements: a set and two parts more

  range_late : (s n : ℕ) (fits : Bool) (kind : ℕ) → (k : ℕ) × ((unless f 7 fits >>= λ _. bits (trap f kind) >>= λ m. unless f 7 (inside m 64) >>= λ _. give (Bits (bit_or s (elements n m)))) ≡ trap f k)
  range_late s n true kind = (kind, refl)
  range_late s n false kind = (7, refl)

  range_of : (b : Bool) (s n m : ℕ) (first last : Bool) → IsMeant f b (if first then (if last then Some (bit_or s (elements n m)) else None) else None)
      (unless f 7 first >>= λ _. bits (give (Bits m)) >>= λ k. unless f 7 last >>= λ _. give (Bits (bit_or s (elements n m))))
  range_of b s n m true true = refl
  range_of b s n m true false = traps b 7 refl
  range_of b s n m false last = traps b 7 refl

  pub meant_range : (b c d : Bool) (o q r : Option ℕ) (s x y : Act Cell) → IsMeant f b o s → IsMeant f c q x → IsMeant f d r y
      → IsMeant f (b && (c && d)) (of_two (λ m k. of_one (λ n. element_only n (λ e. element_only k (λ g. Some (bit_or m (elements e g))))) q) o r) (with_range f s x y)
  meant_range b c d (Some m) (Some n) (Some k) s x y one two three =
      meant_as (b && (c && d)) (element_only n (λ e. element_only k (λ g. Some (bit_or m (elements e g)))))
      (ap (λ z. with_range f z x y) one ∙ ap₂ (with_range f (give (Bits m))) two three) (range_of (b && (c && d)) m n k (inside n 64) (inside k 64))
  meant_range true true true (Some m) (Some n) None s x y one two three =
      let l = range_late m n (inside n 64) three.0 in (l.0, ap (λ z. with_range f z x y) one ∙ ap₂ (with_range f (give (Bits m))) two three.1 ∙ l.1)
  meant_range true true false (Some m) (Some n) None s x y one two three = tt
  meant_range true false d (Some m) (Some n) None s x y one two three = tt
  meant_range false c d (Some m) (Some n) None s x y one two three = tt
  meant_range true true true (Some m) None (Some k) s x y one two three = (two.0, ap (λ z. with_range f z x y) one ∙ ap (λ z. with_range f (give (Bits m)) z y) two.1)
  meant_range true true false (Some m) None (Some k) s x y one two three = tt
  meant_range true false d (Some m) None (Some k) s x y one two three = tt
  meant_range false c d (Some m) None (Some k) s x y one two three = tt
  meant_range true true true (Some m) None None s x y one two three = (two.0, ap (λ z. with_range f z x y) one ∙ ap (λ z. with_range f (give (Bits m)) z y) two.1)
  meant_range true true false (Some m) None None s x y one two three = tt
  meant_range true false d (Some m) None None s x y one two three = tt
  meant_range false c d (Some m) None None s x y one two three = tt
  meant_range true true true None q r s x y one two three = (one.0, ap (λ z. with_range f z x y) one.1)
  meant_range true true false None q r s x y one two three = tt
  meant_range true false d None q r s x y one two three = tt
  meant_range false c d None q r s x y one two three = tt
