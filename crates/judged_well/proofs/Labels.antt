-- The labels of a CASE on INTEGER or CHAR, and the step of FOR.
use Rattle.std.proofs.Common.{◌≡◌, ℕ, zero, suc, ◌<◌, ◌^◌, List, [], ◌∷◌, ◌++◌, Bool, true, false, not, ◌&&◌, Option, Some, None, refl, subst, arith}
use Rattle.std.specs.Prelude.{ℤ, pos, nat_lt, int_le}
use Rattle.std.specs.Ordering.{int_eq}
use Rattle.std.proofs.lemmas.Bool.Decides.{nat_tests}
use Rattle.std.proofs.lemmas.Int.{ints}
use Rattle.wrapping_numbers.specs.Numbers.{signed}
use Rattle.ob_types.specs.Forms.{all}
use Rattle.ob_types.specs.WellFormed.{is_integer, is_step, label_fine}
use Rattle.ob_types.specs.declared.statements.Label.{Label as ValueLabel}
use Rattle.ob_types.proofs.Tests.{no, none_some, some_same, and_of, and_from}
use Rattle.ob_syntax.specs.Syntax as S
use Rattle.ob_syntax.specs.declared.statements.Range.{Range}
use Rattle.ob_syntax.specs.declared.statements.High.{High}
use Rattle.ob_syntax.specs.declared.statements.Label.{Label}
use Rattle.ob_syntax.specs.declared.statements.Label.TheVariants as TheLabel
use Rattle.ob_judge.specs.Shapes.{Integer, Char}
use Rattle.ob_judge.specs.Image.{Constant, Bits}
use Rattle.ob_judge.specs.Image as Tree
use Rattle.ob_judge.specs.Scopes.{Object, AConstant, AType, World, Source, place, symbol_at, characters}
use Rattle.ob_judge.specs.Names.{member_symbol}
use Rattle.ob_judge.specs.Symbols.{expression_first}
use Rattle.ob_judge.specs.Parts.{int_of, char_of}
use Rattle.ob_judge.specs.Cases.{Labelled, label_in, constant_only, label_constant, label_symbol, label, high_label, value_label, overlaps, range, ranges}
use Rattle.ob_judge.specs.Assignments.{int_only, step_of}
use Rattle.judged_well.specs.Gives.{Gives}
use Rattle.judged_well.specs.Forms.{Number, Small, literal, literal_by}
use Rattle.judged_well.specs.Setting.{Setting, IsOrder}
use Rattle.judged_well.specs.Standing.{IsRead, ConstantStands, ObjectStands, near_for, are_characters, Right}
use Rattle.judged_well.proofs.Judging.{keeps, and_then, by_rule, by_some, at_last}
use Rattle.judged_well.proofs.Reading.{int_small, char_small, characters_are}
use Rattle.judged_well.proofs.Naming.{t_qualified}
use Rattle.judged_well.proofs.Values.{literal_number, literal_small}
use Rattle.judged_well.proofs.Constants.{t_constant}

-- numbers of 64 bits, read as INTEGERs, and bytes
signed_integer : (n : ℕ) → n < 2 ^ 64 → is_integer (signed n) ≡ true
signed_integer n l = grind (arith, ints, nat_tests)

byte_integer : (n : ℕ) → n < 256 → is_integer (pos n) ≡ true
byte_integer n l = grind (arith, nat_tests)

less : (n m : ℕ) → nat_lt n m ≡ true → n < m
less n m h = grind (arith, nat_tests)

module _ (e : Setting) where
  -- a literal that an INTEGER may have, and one that a CHAR may have
  number_below : (n : ℕ) → near_for e (literal n) (Some Number) ≡ true → n < 2 ^ 64
  number_below zero h = omega arith
  number_below (suc zero) h = omega arith
  number_below (suc (suc n)) h = by (nat_lt (suc (suc n)) 256) (nat_lt (suc (suc n)) (2 ^ 64)) refl refl h
    where
      by : (a b : Bool) → nat_lt (suc (suc n)) 256 ≡ a → nat_lt (suc (suc n)) (2 ^ 64) ≡ b → near_for e (literal_by a b) (Some Number) ≡ true → suc (suc n) < 2 ^ 64
      by true b i j h = let l = less (suc (suc n)) 256 i in omega (arith, l)
      by false true i j h = less (suc (suc n)) (2 ^ 64) j
      by false false i j h = no h

  char_below : (n : ℕ) → near_for e (literal n) (Some Small) ≡ true → n < 256
  char_below zero h = omega arith
  char_below (suc zero) h = omega arith
  char_below (suc (suc n)) h = by (nat_lt (suc (suc n)) 256) (nat_lt (suc (suc n)) (2 ^ 64)) refl h
    where
      by : (a b : Bool) → nat_lt (suc (suc n)) 256 ≡ a → near_for e (literal_by a b) (Some Small) ≡ true → suc (suc n) < 256
      by true b i h = less (suc (suc n)) 256 i
      by false true i h = no h
      by false false i h = no h

  module _ (order : IsOrder e) (p : Source) (read : IsRead p) (w : World) (right : Right e p w) where
    abbrev IsInteger : ℤ → Type 0
    IsInteger z = is_integer z ≡ true

    abbrev AreLabels : Labelled → Type 0
    AreLabels y = all label_fine y.labels ≡ true

    abbrev Known : Constant → Type 0
    Known c = ConstantStands e c

    only_constant : (o : Object) → ObjectStands e o → (c : Constant) → constant_only o ≡ Some c → Known c
    only_constant (AConstant d) h c is = subst Known (some_same d c is) h
    only_constant (AType s) h c is = none_some c is
    only_constant _ h c is = none_some c is

    t_label_constant : (l : Label) → Gives Known (label_constant p w l)
    t_label_constant (TheLabel.Int i) = keeps Known (Bits Integer (int_of (symbol_at p i).kind)) (literal_number e (int_of (symbol_at p i).kind) (int_small p read w i), refl)
    t_label_constant (TheLabel.Char i) = keeps Known (Bits Char (char_of (symbol_at p i).kind)) (literal_small e (char_of (symbol_at p i).kind) (char_small p read w i), refl)
    t_label_constant (TheLabel.Text i) = keeps Known (Tree.Chars (characters p i)) (characters_are p read i)
    t_label_constant (TheLabel.Named q) = and_then (t_qualified e order p w right q.name (member_symbol q.member)) (λ o h. at_last 39 (place p q.name) (constant_only o) (only_constant o h))

    label_value : (of_char : Bool) (c : Constant) → Known c → (z : ℤ) → label_in of_char c ≡ Some z → IsInteger z
    label_value false (Bits Integer n) h z is = subst IsInteger (some_same (signed n) z is) (signed_integer n (number_below n h.0))
    label_value true (Bits Char n) h z is = subst IsInteger (some_same (pos n) z is) (byte_integer n (char_below n h.0))
    label_value true (Tree.Chars (c ∷ [])) h z is = subst IsInteger (some_same (pos c) z is) (byte_integer c (less c 256 (only_character c h)))
      where
        only_character : (c : ℕ) → are_characters (c ∷ []) ≡ true → nat_lt c 256 ≡ true
        only_character c h = (and_of (nat_lt c 256) true (and_of (all (λ c. nat_lt c 256) (c ∷ [])) (nat_lt 2 (2 ^ 32)) h).0).0
    label_value of_char c h z is = none_some z is

    t_label : (of_char : Bool) (l : Label) → Gives IsInteger (label p w of_char l)
    t_label of_char l = and_then (t_label_constant l) (λ c h. at_last 39 (place p (label_symbol l)) (label_in of_char c) (label_value of_char c h))

    t_high : (of_char : Bool) (low : ℤ) → IsInteger low → (h : Option High) → Gives IsInteger (high_label p w of_char low h)
    t_high of_char low i None = keeps IsInteger low i
    t_high of_char low i (Some h) = t_label of_char h.label

    value_fine : (low high : ℤ) (h : Option High) → IsInteger low → IsInteger high → int_le low high ≡ true → all label_fine (value_label low high h ∷ []) ≡ true
    value_fine low high None i j k = and_from (is_integer low) true i refl
    value_fine low high (Some h) i j k = and_from (is_integer low && (is_integer high && int_le low high)) true (and_from (is_integer low) (is_integer high && int_le low high) i (and_from (is_integer high) (int_le low high) j k)) refl

    t_range : (of_char : Bool) (r : Range) (taken : List (ℤ × ℤ)) → Gives AreLabels (range p w of_char r taken)
    t_range of_char r taken = and_then (t_label of_char r.low) (λ low h. and_then (t_high of_char low h r.high) (λ high k.
        by_rule 39 (place p (label_symbol r.low)) (int_le low high && not (overlaps low high taken)) (λ m.
        keeps AreLabels (record { labels = value_label low high r.high ∷ []; taken = (low, high) ∷ taken }) (value_fine low high r.high h k (and_of (int_le low high) (not (overlaps low high taken)) m).0))))

    all_append : (xs ys : List ValueLabel) → all label_fine xs ≡ true → all label_fine ys ≡ true → all label_fine (xs ++ ys) ≡ true
    all_append [] ys h k = k
    all_append (x ∷ xs) ys h k = let g = and_of (label_fine x) (all label_fine xs) h in and_from (label_fine x) (all label_fine (xs ++ ys)) g.0 (all_append xs ys g.1 k)

    pub t_ranges : (of_char : Bool) (rs : List Range) (taken : List (ℤ × ℤ)) → Gives AreLabels (ranges p w of_char rs taken)
    t_ranges of_char [] taken = keeps AreLabels (record { labels = []; taken = taken }) refl
    t_ranges of_char (r ∷ rs) taken = and_then (t_range of_char r taken) (λ x h. and_then (t_ranges of_char rs x.taken) (λ y k. keeps AreLabels (record { labels = x.labels ++ y.labels; taken = y.taken }) (all_append x.labels y.labels h k)))

    abbrev pub IsStep : ℤ → Type 0
    IsStep z = is_step z ≡ true

    int_value : (c : Constant) → Known c → (z : ℤ) → int_only c ≡ Some z → IsInteger z
    int_value (Bits Integer n) h z is = subst IsInteger (some_same (signed n) z is) (signed_integer n (number_below n h.0))
    int_value (Tree.Chars cs) h z is = none_some z is
    int_value (Bits _ n) h z is = none_some z is

    pub t_step : (b : Option S.By) → Gives IsStep (step_of p w b)
    t_step None = keeps IsStep (pos 1) refl
    t_step (Some b) = and_then (t_constant e order p read w right b.step) (λ c h. by_some 31 (place p (expression_first b.step)) (int_only c) (λ z is.
        by_rule 35 (place p (expression_first b.step)) (not (int_eq z (pos 0))) (λ k. keeps IsStep z (and_from (is_integer z) (not (int_eq z (pos 0))) (int_value c h z is) k))))
