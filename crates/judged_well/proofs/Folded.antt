-- The value of a constant expression has the expression's form.
use Rattle.std.proofs.Common.{◌≡◌, ℕ, zero, suc, ◌<◌, ◌^◌, Bool, true, false, Option, Some, None, refl, sym, subst, arith}
use Rattle.std.specs.Prelude.{if◌then◌else◌, nat_lt, option_map, bit_or}
use Rattle.std.proofs.lemmas.Bool.Decides.{nat_tests}
use Rattle.wrapping_numbers.specs.Sets.{has}
use Rattle.wrapping_numbers.proofs.Bounds.{or64_lt}
use Rattle.ob_types.specs.declared.tree.Unary.{Unary}
use Rattle.ob_types.specs.declared.tree.Unary.TheVariants as TheUnary
use Rattle.ob_types.specs.declared.tree.Binary.{Binary}
use Rattle.ob_types.specs.declared.tree.Binary.TheVariants as TheBinary
use Rattle.ob_types.specs.Store.{Bits}
use Rattle.ob_types.specs.Operators.{truth, holds, inside, elements, unary_of, binary_of, relation_of}
use Rattle.ob_types.specs.WellFormed.{provided, with_some}
use Rattle.ob_types.proofs.Tests.{no, some_same}
use Rattle.ob_sound.proofs.Numbers.{unary_lt, binary_lt, inside_lt, elements_lt}
use Rattle.ob_judge.specs.Image.{Expr, Literal, Routine, Load, Guard, Apply, Linked, Compare, CompareTexts, In, IsPointer, IsParameter, AsByte, Length, Result, Link, Operate, And, Or, Element, Elements}
use Rattle.ob_judge.specs.Operands.{of_one, of_two, element_only, both_of, either_of, fold, fold_link}
use Rattle.judged_well.specs.Forms.{Form, Zero, Truth, Small, Number, ToRecord, Routines, Exactly, is_number, is_truth, literal, literal_by, gives_number, gives_truth, unary_form, binary_form, comparable}
use Rattle.judged_well.specs.Setting.{Setting}
use Rattle.judged_well.specs.Typing.{outline, form, link_form}
use Rattle.judged_well.specs.Standing.{near_for}
use Rattle.judged_well.proofs.Values.{literal_small, literal_number}

module _ (e : Setting) where
  abbrev formed : Expr → Option Form
  formed x = form e (outline e) x

  -- where there are a form and a number, the number has the form
  abbrev pub Folds : Option Form → Option ℕ → Type 0
  Folds None q = Unit {0}
  Folds (Some f) None = Unit {0}
  Folds (Some f) (Some n) = near_for e (literal n) (Some f) ≡ true

  -- ---- numbers and their forms

  truth_near : (b : Bool) → near_for e (literal (truth b)) (Some Truth) ≡ true
  truth_near true = refl
  truth_near false = refl

  -- what is near a number's form is below 2 ^ 64
  below : (n : ℕ) (f : Form) → near_for e (literal n) (Some f) ≡ true → n < 2 ^ 64
  below zero f h = omega arith
  below (suc zero) f h = omega arith
  below (suc (suc n)) f h = by (nat_lt (suc (suc n)) 256) (nat_lt (suc (suc n)) (2 ^ 64)) refl refl h
    where
      by : (a b : Bool) → nat_lt (suc (suc n)) 256 ≡ a → nat_lt (suc (suc n)) (2 ^ 64) ≡ b → near_for e (literal_by a b) (Some f) ≡ true → suc (suc n) < 2 ^ 64
      by true b i j h = let l : suc (suc n) < 256 = grind (arith, nat_tests) in omega (arith, l)
      by false true i j h = grind (arith, nat_tests)
      by false false i j h = no h

  nothing : (o : Option Form) → Folds o None
  nothing None = tt
  nothing (Some f) = tt

  when : (b : Bool) (o : Option Form) (q : Option ℕ) → (b ≡ true → Folds o q) → Folds (provided b o) q
  when true o q h = h refl
  when false o q h = tt

  -- ---- operators

  two_values : (n : ℕ) → n < 2 → near_for e (literal n) (Some Truth) ≡ true
  two_values zero l = refl
  two_values (suc zero) l = refl
  two_values (suc (suc n)) l = absurd (omega (arith, l))

  folds_unary : (op : Unary) (n : ℕ) → n < 2 ^ 64 → near_for e (literal (unary_of op n)) (Some (unary_form op)) ≡ true
  folds_unary TheUnary.Not n l = truth_near _
  folds_unary TheUnary.Odd n l = two_values (unary_of TheUnary.Odd n) (omega arith)
  folds_unary TheUnary.Negate n l = literal_number e (unary_of TheUnary.Negate n) (unary_lt TheUnary.Negate n l)
  folds_unary TheUnary.Complement n l = literal_number e (unary_of TheUnary.Complement n) (unary_lt TheUnary.Complement n l)
  folds_unary TheUnary.Abs n l = literal_number e (unary_of TheUnary.Abs n) (unary_lt TheUnary.Abs n l)

  a_truth : (b : Bool) (n : ℕ) → Some (truth b) ≡ Some n → near_for e (literal n) (Some Truth) ≡ true
  a_truth b n i = subst (λ k. near_for e (literal k) (Some Truth) ≡ true) (some_same (truth b) n i) (truth_near b)

  folds_binary : (op : Binary) (a b n : ℕ) → a < 2 ^ 64 → b < 2 ^ 64 → binary_of op a b ≡ Some n → near_for e (literal n) (Some (binary_form op)) ≡ true
  folds_binary TheBinary.Subset a b n k l i = a_truth _ n i
  folds_binary TheBinary.Superset a b n k l i = a_truth _ n i
  folds_binary TheBinary.Add a b n k l i = literal_number e n (binary_lt TheBinary.Add a b n k l i)
  folds_binary op a b n k l i = literal_number e n (binary_lt op a b n k l i)

  -- ---- constructs, from their parts

  applied : (op : Unary) (o : Option Form) (q : Option ℕ) → Folds o q → Folds (provided (gives_number o) (Some (unary_form op))) (of_one (λ a. Some (unary_of op a)) q)
  applied op None q h = tt
  applied op (Some g) None h = nothing (provided (is_number g) (Some (unary_form op)))
  applied op (Some g) (Some a) h = when (is_number g) (Some (unary_form op)) (Some (unary_of op a)) (λ i. folds_unary op a (below a g h))

  -- two operands that are numbers
  on_two : (f : Form) (join : ℕ → ℕ → Option ℕ) → ((a b : ℕ) → a < 2 ^ 64 → b < 2 ^ 64 → Folds (Some f) (join a b)) → (o r : Option Form) (q s : Option ℕ) → Folds o q → Folds r s → Folds (provided (gives_number o) (provided (gives_number r) (Some f))) (of_two join q s)
  on_two f join ok None r q s h k = tt
  on_two f join ok (Some g) None q s h k = when (is_number g) None (of_two join q s) (λ i. tt)
  on_two f join ok (Some g) (Some l) None s h k = nothing (provided (is_number g) (provided (is_number l) (Some f)))
  on_two f join ok (Some g) (Some l) (Some a) None h k = nothing (provided (is_number g) (provided (is_number l) (Some f)))
  on_two f join ok (Some g) (Some l) (Some a) (Some b) h k = when (is_number g) (provided (is_number l) (Some f)) (join a b) (λ i. when (is_number l) (Some f) (join a b) (λ j. ok a b (below a g h) (below b l k)))

  binary_folds : (op : Binary) (a b : ℕ) → a < 2 ^ 64 → b < 2 ^ 64 → Folds (Some (binary_form op)) (binary_of op a b)
  binary_folds op a b k l = by (binary_of op a b) refl
    where
      by : (o : Option ℕ) → binary_of op a b ≡ o → Folds (Some (binary_form op)) o
      by None i = tt
      by (Some n) i = folds_binary op a b n k l i

  truth_up : (o : Option Form) (k : Form) → is_truth k ≡ true → near_for e o (Some k) ≡ true → near_for e o (Some Truth) ≡ true
  truth_up None k i h = no h
  truth_up (Some Zero) k i h = refl
  truth_up (Some Truth) k i h = refl
  truth_up (Some Small) Zero i h = no h
  truth_up (Some Small) Truth i h = no h
  truth_up (Some Small) _ i h = no i
  truth_up (Some Number) Zero i h = no h
  truth_up (Some Number) Truth i h = no h
  truth_up (Some Number) _ i h = no i
  truth_up (Some (ToRecord r)) Zero i h = no h
  truth_up (Some (ToRecord r)) Truth i h = no h
  truth_up (Some (ToRecord r)) _ i h = no i
  truth_up (Some (Routines ps s)) Zero i h = no h
  truth_up (Some (Routines ps s)) Truth i h = no h
  truth_up (Some (Routines ps s)) _ i h = no i
  truth_up (Some (Exactly f)) Zero i h = no h
  truth_up (Some (Exactly f)) Truth i h = no h
  truth_up (Some (Exactly f)) _ i h = no i

  truth_of : (k : Form) (s : Option ℕ) → is_truth k ≡ true → Folds (Some k) s → Folds (Some Truth) s
  truth_of k None i h = tt
  truth_of k (Some b) i h = truth_up (literal b) k i h

  chosen : (b : Bool) (s t : Option ℕ) → Folds (Some Truth) s → Folds (Some Truth) t → Folds (Some Truth) (if b then s else t)
  chosen true s t h k = h
  chosen false s t h k = k

  both_folds : (o r : Option Form) (q s : Option ℕ) → Folds r s → Folds (provided (gives_truth o) (provided (gives_truth r) (Some Truth))) (both_of q s)
  both_folds None r q s k = tt
  both_folds (Some g) None q s k = when (is_truth g) None (both_of q s) (λ i. tt)
  both_folds (Some g) (Some l) None s k = nothing (provided (is_truth g) (provided (is_truth l) (Some Truth)))
  both_folds (Some g) (Some l) (Some a) s k = when (is_truth g) (provided (is_truth l) (Some Truth)) (both_of (Some a) s) (λ i. when (is_truth l) (Some Truth) (both_of (Some a) s) (λ j. chosen (holds a) s (Some 0) (truth_of l s j k) refl))

  either_folds : (o r : Option Form) (q s : Option ℕ) → Folds r s → Folds (provided (gives_truth o) (provided (gives_truth r) (Some Truth))) (either_of q s)
  either_folds None r q s k = tt
  either_folds (Some g) None q s k = when (is_truth g) None (either_of q s) (λ i. tt)
  either_folds (Some g) (Some l) None s k = nothing (provided (is_truth g) (provided (is_truth l) (Some Truth)))
  either_folds (Some g) (Some l) (Some a) s k = when (is_truth g) (provided (is_truth l) (Some Truth)) (either_of (Some a) s) (λ i. when (is_truth l) (Some Truth) (either_of (Some a) s) (λ j. chosen (holds a) (Some 1) s refl (truth_of l s j k)))

  -- an element's number is below 64
  element_folds : (f : Form) (a : ℕ) (g : ℕ → Option ℕ) → a < 2 ^ 64 → (a < 64 → Folds (Some f) (g a)) → Folds (Some f) (element_only a g)
  element_folds f a g l h = by (inside a 64) refl
    where
      by : (c : Bool) → inside a 64 ≡ c → Folds (Some f) (if c then g a else None)
      by true i = h (inside_lt a 64 l (omega arith) i)
      by false i = tt

  element_set : (b a : ℕ) → b < 2 ^ 64 → a < 2 ^ 64 → Folds (Some Number) (element_only a (λ x. Some (bit_or b (elements x x))))
  element_set b a k l = element_folds Number a (λ x. Some (bit_or b (elements x x))) l (λ s. literal_number e (bit_or b (elements a a)) (or64_lt b (elements a a) k (elements_lt a a s s)))

  range_set : (b a c : ℕ) → b < 2 ^ 64 → a < 2 ^ 64 → c < 2 ^ 64 → Folds (Some Number) (element_only a (λ x. element_only c (λ y. Some (bit_or b (elements x y)))))
  range_set b a c k l m = element_folds Number a (λ x. element_only c (λ y. Some (bit_or b (elements x y)))) l (λ s. element_folds Number c (λ y. Some (bit_or b (elements a y))) m (λ t. literal_number e (bit_or b (elements a c)) (or64_lt b (elements a c) k (elements_lt a c s t))))

  range_folds : (o r u : Option Form) (q s t : Option ℕ) → Folds o q → Folds r s → Folds u t → Folds (provided (gives_number o) (provided (gives_number r) (provided (gives_number u) (Some Number)))) (of_two (λ b c. of_one (λ a. element_only a (λ x. element_only c (λ y. Some (bit_or b (elements x y))))) s) q t)
  range_folds None r u q s t h k l = tt
  range_folds (Some g) None u q s t h k l = when (is_number g) None (of_two (λ b c. of_one (λ a. element_only a (λ x. element_only c (λ y. Some (bit_or b (elements x y))))) s) q t) (λ i. tt)
  range_folds (Some g) (Some m) u q None t h k l = by q t
    where
      empty : (q t : Option ℕ) → of_two (λ b c. of_one (λ a. element_only a (λ x. element_only c (λ y. Some (bit_or b (elements x y))))) None) q t ≡ None
      empty None t = refl
      empty (Some b) None = refl
      empty (Some b) (Some c) = refl

      by : (q t : Option ℕ) → Folds (provided (is_number g) (provided (is_number m) (provided (gives_number u) (Some Number)))) (of_two (λ b c. of_one (λ a. element_only a (λ x. element_only c (λ y. Some (bit_or b (elements x y))))) None) q t)
      by q t = subst (λ z. Folds (provided (is_number g) (provided (is_number m) (provided (gives_number u) (Some Number)))) z) (sym (empty q t)) (nothing (provided (is_number g) (provided (is_number m) (provided (gives_number u) (Some Number)))))
  range_folds (Some g) (Some m) u q (Some a) t h k l = when (is_number g) (provided (is_number m) (provided (gives_number u) (Some Number))) (of_two (λ b c. element_only a (λ x. element_only c (λ y. Some (bit_or b (elements x y))))) q t)
      (λ i. when (is_number m) (provided (gives_number u) (Some Number)) (of_two (λ b c. element_only a (λ x. element_only c (λ y. Some (bit_or b (elements x y))))) q t) (λ j. last u q t h l))
    where
      last : (u : Option Form) (q t : Option ℕ) → Folds (Some g) q → Folds u t → Folds (provided (gives_number u) (Some Number)) (of_two (λ b c. element_only a (λ x. element_only c (λ y. Some (bit_or b (elements x y))))) q t)
      last None q t h l = tt
      last (Some v) None t h l = nothing (provided (is_number v) (Some Number))
      last (Some v) (Some b) None h l = nothing (provided (is_number v) (Some Number))
      last (Some v) (Some b) (Some c) h l = when (is_number v) (Some Number) (element_only a (λ x. element_only c (λ y. Some (bit_or b (elements x y))))) (λ i. range_set b a c (below b g h) (below a m k) (below c v l))

  compared_folds : (f : Form → Form → Bool) (join : ℕ → ℕ → Option Bool) (o r : Option Form) (q s : Option ℕ) → Folds (with_some o (λ a. with_some r (λ b. provided (f a b) (Some Truth)))) (of_two (λ a b. option_map truth (join a b)) q s)
  compared_folds f join None r q s = tt
  compared_folds f join (Some g) None q s = tt
  compared_folds f join (Some g) (Some l) None s = nothing (provided (f g l) (Some Truth))
  compared_folds f join (Some g) (Some l) (Some a) None = nothing (provided (f g l) (Some Truth))
  compared_folds f join (Some g) (Some l) (Some a) (Some b) = when (f g l) (Some Truth) (option_map truth (join a b)) (λ i. by (join a b))
    where
      by : (c : Option Bool) → Folds (Some Truth) (option_map truth c)
      by None = tt
      by (Some t) = truth_near t

  byte_folds : (o : Option Form) (q : Option ℕ) → Folds o q → Folds (provided (gives_number o) (Some Small)) (of_one (λ a. if inside a 256 then Some a else None) q)
  byte_folds None q h = tt
  byte_folds (Some g) None h = nothing (provided (is_number g) (Some Small))
  byte_folds (Some g) (Some a) h = when (is_number g) (Some Small) (if inside a 256 then Some a else None) (λ i. by (inside a 256) refl)
    where
      by : (c : Bool) → inside a 256 ≡ c → Folds (Some Small) (if c then Some a else None)
      by true j = literal_small e a (inside_lt a 256 (below a g h) (omega arith) j)
      by false j = tt

  literal_self : (n : ℕ) → Folds (literal n) (Some n)
  literal_self zero = refl
  literal_self (suc zero) = refl
  literal_self (suc (suc n)) = by (nat_lt (suc (suc n)) 256) (nat_lt (suc (suc n)) (2 ^ 64)) refl refl
    where
      by : (a b : Bool) → nat_lt (suc (suc n)) 256 ≡ a → nat_lt (suc (suc n)) (2 ^ 64) ≡ b → Folds (literal_by a b) (Some (suc (suc n)))
      by true b i j = literal_small e (suc (suc n)) (grind (arith, nat_tests))
      by false true i j = literal_number e (suc (suc n)) (grind (arith, nat_tests))
      by false false i j = tt

  -- ---- the tree

  mutual
    pub folded : (x : Expr) → Folds (formed x) (fold x)
    folded (Literal n) = literal_self n
    folded (Apply op x) = applied op (formed x) (fold x) (folded x)
    folded (Linked x l) = folded_link l (formed x) (fold x) (folded x)
    folded (Compare r x y) = compared_folds (comparable r) (λ a b. relation_of r (Bits a) (Bits b)) (formed x) (formed y) (fold x) (fold y)
    folded (In x y) = on_two Truth (λ a b. element_only a (λ z. Some (truth (has b z)))) (λ a b k l. element_folds Truth a (λ z. Some (truth (has b z))) k (λ s. truth_near (has b a))) (formed x) (formed y) (fold x) (fold y) (folded x) (folded y)
    folded (AsByte x) = byte_folds (formed x) (fold x) (folded x)
    folded (Routine f) = nothing (formed (Routine f))
    folded (Load d) = nothing (formed (Load d))
    folded (Guard x r) = nothing (formed (Guard x r))
    folded (CompareTexts r d f) = nothing (formed (CompareTexts r d f))
    folded (IsPointer x r) = nothing (formed (IsPointer x r))
    folded (IsParameter d r) = nothing (formed (IsParameter d r))
    folded (Length d) = nothing (formed (Length d))
    folded (Result c) = nothing (formed (Result c))

    folded_link : (l : Link) (o : Option Form) (q : Option ℕ) → Folds o q → Folds (link_form e (outline e) l o) (fold_link l q)
    folded_link (Operate op y) o q h = on_two (binary_form op) (binary_of op) (binary_folds op) o (formed y) q (fold y) h (folded y)
    folded_link (And y) o q h = both_folds o (formed y) q (fold y) (folded y)
    folded_link (Or y) o q h = either_folds o (formed y) q (fold y) (folded y)
    folded_link (Element y) o q h = on_two Number (λ b a. element_only a (λ x. Some (bit_or b (elements x x)))) element_set o (formed y) q (fold y) h (folded y)
    folded_link (Elements y z) o q h = range_folds o (formed y) (formed z) q (fold y) (fold z) h (folded y) (folded z)
