-- The steps of a scan at the places of the bytes.
use Rattle.std.proofs.Common.{◌≡◌, ℕ, zero, suc, ◌+◌, ◌-◌, ◌*◌, ◌<◌, ◌≤◌, ◌^◌, List, [], ◌∷◌, ◌++◌, Bool, true, false, cond, nat_eq, Some, None, ℤ, pos, length, take, drop, get_or, refl, sym, ap, ◌∙◌, subst, arith, append_assoc, length-append, length-drop, lit<}
use Rattle.std.proofs.lemmas.List.{append-nil}
use Rattle.std.proofs.Math.Nat.{mul-le-mul_left}
use Rattle.std.specs.Prelude.{IfOk, IfErr}
use Rattle.std.specs.declared.result.Result.{Result}
use Rattle.std.specs.declared.result.Result.TheVariants.{Ok, Err}
use Rattle.ob_symbol.specs.declared.symbol.Kind.{Kind}
use Rattle.ob_symbol.specs.declared.symbol.Kind.TheVariants.{Ident, Int, Char, Text, Word, Mark}
use Rattle.ob_symbol.specs.declared.symbol.Reserved.{Reserved}
use Rattle.ob_symbol.specs.declared.symbol.Delimiter.{Delimiter}
use Rattle.ob_symbol.specs.declared.symbol.Symbol.{Symbol}
use Rattle.ob_scan.specs.declared.fault.ScanFault.{ScanFault}
use Rattle.ob_scan.specs.declared.fault.ScanFault.TheVariants.{Fault, Memory}
use Rattle.ob_scan.specs.declared.fault.NoSymbol.{NoSymbol}
use Rattle.ob_scan.specs.declared.fault.NoSymbol.TheVariants.{BadByte, OpenComment, OpenString, NumberTooLarge, NameTooLong}
use Rattle.ob_scan.specs.Tables.{reserved_of, one_mark, two_mark}
use Rattle.ob_scan.specs.Words.{is_letter, is_letter_or_digit, is_digit, is_hexadecimal, is_quotable, is_all, begins_with, begins_comment, digit, value_from, signed, WordForm, Name, Keyword, Decimal, Hexadecimal, Character, Quoted, Operator, name_or_keyword, kind_of, IsTooLarge, IsTooLong}
use Rattle.ob_scan.specs.Scans.{Gap, Longest, Unclosed, symbol, Scans, IsFirst, End, Done, Broken, ends, reads, bad_byte, open_comment, open_string, too_large, too_long}
use Rattle.ob_scan.specs.Steps.{Spanned, Passing, Past, Found, Broke, NoBeginning, Refused, IsAdded, IsRefused, Reads, Stops, rule, two_at}
use Rattle.ob_scan.proofs.Places.{here, after_one, after_two, byte_there}
use Rattle.ob_scan.proofs.Gaps.{cond_true}
use Rattle.ob_scan.proofs.Longest.{all_more, all_first, all_rest, digit_is_hexadecimal, name_longest, hexadecimal_longest, character_longest, decimal_longest, text_longest, line_over, one_longest, two_longest, no_beginning}

take_front : (x y : List ℕ) → take (length x) (x ++ y) ≡ x
take_front [] y = refl
take_front (a ∷ x) y = ap (λ z. a ∷ z) (take_front x y)

pub place_of : (w : List ℕ) (i j : ℕ) (front : List ℕ) → i ≤ length w → j ≤ length w → drop i w ≡ front ++ drop j w → i + length front ≡ j
place_of w i j front h g e =
    let a : length w - i ≡ length front + (length w - j) = sym (length-drop i w) ∙ (ap length e ∙ (length-append front (drop j w) ∙ ap (λ n. length front + n) (length-drop j w))) in
    omega arith

-- the byte at i and those that pass after it, up to another place
pub record Run (p : ℕ → Bool) (w : List ℕ) (i to : ℕ) : Type 0 where
  pub front : List ℕ
  pub split : drop i w ≡ (get_or w i 0 ∷ front) ++ drop to w
  pub is : Spanned p (drop (i + 1) w) front (drop to w)
  pub taken : take (to - i) (drop i w) ≡ get_or w i 0 ∷ front
  pub size : to - i ≡ length (get_or w i 0 ∷ front)

pub run_at : (p : ℕ → Bool) (w : List ℕ) (i to : ℕ) → i < length w → to ≤ length w → Passing p (drop (i + 1) w) (drop to w) → ((x : ℕ) (y : List ℕ) → drop to w ≡ x ∷ y → p x ≡ false) → Run p w i to
run_at p w i to lt le s stop =
    let b = get_or w i 0 in
    let k = here w i lt in
    let m = after_one w i b (drop (suc i) w) k in
    let split : drop i w ≡ (b ∷ s.front) ++ drop to w = k ∙ ap (λ z. b ∷ z) (sym m.0 ∙ s.split) in
    let at = place_of w i to (b ∷ s.front) (omega arith) le split in
    let size : to - i ≡ length (b ∷ s.front) = omega arith in
    record {
      front = s.front;
      split = split;
      is = record { split = s.split; all = s.all; stop = stop };
      taken = (ap (λ n. take n (drop i w)) size ∙ ap (take (length (b ∷ s.front))) split) ∙ take_front (b ∷ s.front) (drop to w);
      size = size;
    }

-- names and reserved words

name_at : (w : List ℕ) (i to : ℕ) (k : Run is_letter_or_digit w i to) → is_letter (get_or w i 0) ≡ true → (form : WordForm) → name_or_keyword (reserved_of (take (to - i) (drop i w))) ≡ form → Longest (get_or w i 0 ∷ k.front) (drop to w) form
name_at w i to k h form e = subst (Longest (get_or w i 0 ∷ k.front) (drop to w)) (ap (λ z. name_or_keyword (reserved_of z)) (sym k.taken) ∙ e) (name_longest (get_or w i 0) (drop (i + 1) w) k.front (drop to w) h k.is)

pub keyword_found : (w : List ℕ) (i to : ℕ) (r : Reserved) → Run is_letter_or_digit w i to → is_letter (get_or w i 0) ≡ true → Some r ≡ reserved_of (take (to - i) (drop i w)) → Found (drop i w) (drop to w) (Word r)
keyword_found w i to r k h e = record { word = get_or w i 0 ∷ k.front; form = Keyword r; split = k.split; is = name_at w i to k h (Keyword r) (ap name_or_keyword (sym e)); kind_is = refl; within = lit< tt }

pub name_found : (w : List ℕ) (i to : ℕ) → Run is_letter_or_digit w i to → is_letter (get_or w i 0) ≡ true → None ≡ reserved_of (take (to - i) (drop i w)) → to - i ≤ 255 → Found (drop i w) (drop to w) Ident
name_found w i to k h e few = record { word = get_or w i 0 ∷ k.front; form = Name; split = k.split; is = name_at w i to k h Name (ap name_or_keyword (sym e)); kind_is = refl; within = subst (λ n. n ≤ 255) k.size few }

pub name_broke : (w : List ℕ) (i to : ℕ) → Run is_letter_or_digit w i to → is_letter (get_or w i 0) ≡ true → None ≡ reserved_of (take (to - i) (drop i w)) → 255 < to - i → Broke IsTooLong (drop i w)
name_broke w i to k h e many = record { word = get_or w i 0 ∷ k.front; rest = drop to w; form = Name; split = k.split; is = name_at w i to k h Name (ap name_or_keyword (sym e)); past = subst (λ n. 255 < n) k.size many }

-- values

pub all_at : (p : ℕ → Bool) (s : List ℕ) (i : ℕ) → is_all p s ≡ true → i < length s → p (get_or s i 0) ≡ true
all_at p [] i h lt = absurd (omega arith)
all_at p (b ∷ s) zero h lt = all_first p b s h
all_at p (b ∷ s) (suc i) h lt = all_at p s i (all_rest p b s h) (omega arith)

value_next : (base n b : ℕ) (w : List ℕ) → is_hexadecimal b ≡ true → value_from base n (b ∷ w) ≡ value_from base (n * base + digit b) w
value_next base n b w h = cond_true (is_hexadecimal b) _ _ h

pub value_step : (base : ℕ) (w : List ℕ) (i value d total : ℕ) → i < length w → is_hexadecimal (get_or w i 0) ≡ true → d ≡ digit (get_or w i 0) → value_from base value (drop i w) ≡ total → value_from base (value * base + d) (drop (i + 1) w) ≡ total
value_step base w i value d total lt hex e h =
    let k = here w i lt in
    let m = after_one w i (get_or w i 0) (drop (suc i) w) k in
    let s = value_next base value (get_or w i 0) (drop (suc i) w) hex in
    let t : value_from base (value * base + d) (drop (i + 1) w) ≡ value_from base (value * base + digit (get_or w i 0)) (drop (suc i) w) = ap (λ n. value_from base (value * base + n) (drop (i + 1) w)) e ∙ ap (value_from base (value * base + digit (get_or w i 0))) m.0 in
    t ∙ (sym s ∙ (ap (value_from base value) (sym k) ∙ h))

grows_on : (base n d : ℕ) → 1 ≤ base → n ≤ n * base + d
grows_on base n d h = omega (arith, mul-le-mul_left n h)

grows : (base : ℕ) (w : List ℕ) (n : ℕ) → 1 ≤ base → n ≤ value_from base n w
grows base [] n h = omega arith
grows base (b ∷ w) n h =
    let k = grows base w (n * base + digit b) h in
    let m = grows_on base n (digit b) h in
    elim (is_hexadecimal b) as (λ c. n ≤ cond c (value_from base (n * base + digit b) w) n) [ true ↦ omega arith | false ↦ omega arith ]

-- the number so far is at most that of all digits
pub value_grows : (base : ℕ) (w : List ℕ) (i value d total : ℕ) → 1 ≤ base → i < length w → is_hexadecimal (get_or w i 0) ≡ true → d ≡ digit (get_or w i 0) → value_from base value (drop i w) ≡ total → value * base + d ≤ total
value_grows base w i value d total one lt hex e h =
    let s = value_step base w i value d total lt hex e h in
    subst (λ n. value * base + d ≤ n) s (grows base (drop (i + 1) w) (value * base + d) one)

-- numbers and characters

pub run_hexadecimal : (w : List ℕ) (i to : ℕ) → Run is_hexadecimal w i to → is_digit (get_or w i 0) ≡ true → is_all is_hexadecimal (take (to - i) (drop i w)) ≡ true
run_hexadecimal w i to k h = ap (is_all is_hexadecimal) k.taken ∙ all_more is_hexadecimal (get_or w i 0) k.front (digit_is_hexadecimal (get_or w i 0) h) k.is.all

pub run_digits : (w : List ℕ) (i to : ℕ) → Run is_digit w i to → is_digit (get_or w i 0) ≡ true → is_all is_digit (take (to - i) (drop i w)) ≡ true
run_digits w i to k h = ap (is_all is_digit) k.taken ∙ all_more is_digit (get_or w i 0) k.front h k.is.all

pub signed_small : (n : ℕ) → n < 2 ^ 63 → signed n ≡ pos n
signed_small n h = grind arith

-- digits, and the suffix after them
suffix_split : (p : ℕ → Bool) (w : List ℕ) (i j last : ℕ) (k : Run p w i j) → true ≡ begins_with last (drop j w) → drop i w ≡ (get_or w i 0 ∷ (k.front ++ (last ∷ []))) ++ drop (j + 1) w
suffix_split p w i j last k h =
    let t = byte_there w j last h in
    k.split ∙ ap (λ z. get_or w i 0 ∷ z) (ap (λ z. k.front ++ z) t.0 ∙ sym (append_assoc k.front (last ∷ []) (drop (j + 1) w)))

pub hexadecimal_found : (w : List ℕ) (i j n : ℕ) (z : ℤ) → Run is_hexadecimal w i j → is_digit (get_or w i 0) ≡ true → true ≡ begins_with 72 (drop j w) → n ≡ value_from 16 0 (take (j - i) (drop i w)) → n < 2 ^ 64 → z ≡ signed n → Found (drop i w) (drop (j + 1) w) (Int z)
hexadecimal_found w i j n z k d h e small same =
    let v : n ≡ value_from 16 0 (get_or w i 0 ∷ k.front) = e ∙ ap (value_from 16 0) k.taken in
    record {
      word = get_or w i 0 ∷ (k.front ++ (72 ∷ []));
      form = Hexadecimal n;
      split = suffix_split is_hexadecimal w i j 72 k h;
      is = subst (λ (m : ℕ). Longest (get_or w i 0 ∷ (k.front ++ (72 ∷ []))) (drop (j + 1) w) (Hexadecimal m)) (sym v) (hexadecimal_longest (get_or w i 0) k.front (drop (j + 1) w) d k.is.all);
      kind_is = ap Int same;
      within = small;
    }

pub hexadecimal_broke : (w : List ℕ) (i j : ℕ) → Run is_hexadecimal w i j → is_digit (get_or w i 0) ≡ true → true ≡ begins_with 72 (drop j w) → 2 ^ 64 ≤ value_from 16 0 (take (j - i) (drop i w)) → Broke (λ form word. IsTooLarge form) (drop i w)
hexadecimal_broke w i j k d h large = record {
  word = get_or w i 0 ∷ (k.front ++ (72 ∷ []));
  rest = drop (j + 1) w;
  form = Hexadecimal (value_from 16 0 (get_or w i 0 ∷ k.front));
  split = suffix_split is_hexadecimal w i j 72 k h;
  is = hexadecimal_longest (get_or w i 0) k.front (drop (j + 1) w) d k.is.all;
  past = subst (λ (m : ℕ). 2 ^ 64 ≤ m) (ap (value_from 16 0) k.taken) large;
}

pub character_found : (w : List ℕ) (i j n : ℕ) → Run is_hexadecimal w i j → is_digit (get_or w i 0) ≡ true → true ≡ begins_with 88 (drop j w) → n ≡ value_from 16 0 (take (j - i) (drop i w)) → n ≤ 255 → Found (drop i w) (drop (j + 1) w) (Char n)
character_found w i j n k d h e small =
    let v : n ≡ value_from 16 0 (get_or w i 0 ∷ k.front) = e ∙ ap (value_from 16 0) k.taken in
    record {
      word = get_or w i 0 ∷ (k.front ++ (88 ∷ []));
      form = Character n;
      split = suffix_split is_hexadecimal w i j 88 k h;
      is = subst (λ (m : ℕ). Longest (get_or w i 0 ∷ (k.front ++ (88 ∷ []))) (drop (j + 1) w) (Character m)) (sym v) (character_longest (get_or w i 0) k.front (drop (j + 1) w) d k.is.all);
      kind_is = refl;
      within = omega arith;
    }

pub character_broke : (w : List ℕ) (i j : ℕ) → Run is_hexadecimal w i j → is_digit (get_or w i 0) ≡ true → true ≡ begins_with 88 (drop j w) → 256 ≤ value_from 16 0 (take (j - i) (drop i w)) → Broke (λ form word. IsTooLarge form) (drop i w)
character_broke w i j k d h large = record {
  word = get_or w i 0 ∷ (k.front ++ (88 ∷ []));
  rest = drop (j + 1) w;
  form = Character (value_from 16 0 (get_or w i 0 ∷ k.front));
  split = suffix_split is_hexadecimal w i j 88 k h;
  is = character_longest (get_or w i 0) k.front (drop (j + 1) w) d k.is.all;
  past = subst (λ (m : ℕ). 256 ≤ m) (ap (value_from 16 0) k.taken) large;
}

decimal_at : (w : List ℕ) (i j to : ℕ) → Run is_hexadecimal w i j → (k : Run is_digit w i to) → is_digit (get_or w i 0) ≡ true → false ≡ begins_with 72 (drop j w) → false ≡ begins_with 88 (drop j w) → Longest (get_or w i 0 ∷ k.front) (drop to w) (Decimal (value_from 10 0 (get_or w i 0 ∷ k.front)))
decimal_at w i j to h k d no_h no_x = decimal_longest (get_or w i 0) (drop (i + 1) w) k.front (drop to w) h.front (drop j w) d k.is h.is (sym no_h) (sym no_x)

pub decimal_found : (w : List ℕ) (i j to n : ℕ) (z : ℤ) → Run is_hexadecimal w i j → Run is_digit w i to → is_digit (get_or w i 0) ≡ true → false ≡ begins_with 72 (drop j w) → false ≡ begins_with 88 (drop j w) → n ≡ value_from 10 0 (take (to - i) (drop i w)) → n < 2 ^ 63 → z ≡ pos n → Found (drop i w) (drop to w) (Int z)
decimal_found w i j to n z h k d no_h no_x e small same =
    let v : n ≡ value_from 10 0 (get_or w i 0 ∷ k.front) = e ∙ ap (value_from 10 0) k.taken in
    record {
      word = get_or w i 0 ∷ k.front;
      form = Decimal n;
      split = k.split;
      is = subst (λ (m : ℕ). Longest (get_or w i 0 ∷ k.front) (drop to w) (Decimal m)) (sym v) (decimal_at w i j to h k d no_h no_x);
      kind_is = ap Int same;
      within = small;
    }

pub decimal_broke : (w : List ℕ) (i j to : ℕ) → Run is_hexadecimal w i j → Run is_digit w i to → is_digit (get_or w i 0) ≡ true → false ≡ begins_with 72 (drop j w) → false ≡ begins_with 88 (drop j w) → 2 ^ 63 ≤ value_from 10 0 (take (to - i) (drop i w)) → Broke (λ form word. IsTooLarge form) (drop i w)
decimal_broke w i j to h k d no_h no_x large = record {
  word = get_or w i 0 ∷ k.front;
  rest = drop to w;
  form = Decimal (value_from 10 0 (get_or w i 0 ∷ k.front));
  split = k.split;
  is = decimal_at w i j to h k d no_h no_x;
  past = subst (λ (m : ℕ). 2 ^ 63 ≤ m) (ap (value_from 10 0) k.taken) large;
}

-- strings

pub text_found : (w : List ℕ) (i j : ℕ) → Run is_quotable w i j → get_or w i 0 ≡ 34 → true ≡ begins_with 34 (drop j w) → Found (drop i w) (drop (j + 1) w) Text
text_found w i j k q h = record {
  word = 34 ∷ (k.front ++ (34 ∷ []));
  form = Quoted;
  split = suffix_split is_quotable w i j 34 k h ∙ ap (λ a. (a ∷ (k.front ++ (34 ∷ []))) ++ drop (j + 1) w) q;
  is = text_longest k.front (drop (j + 1) w) k.is.all;
  kind_is = refl;
  within = lit< tt;
}

pub text_open : (w : List ℕ) (i j : ℕ) → Run is_quotable w i j → get_or w i 0 ≡ 34 → false ≡ begins_with 34 (drop j w) → Unclosed (drop i w)
text_open w i j k q h = record {
  inside = k.front;
  after = drop j w;
  split = k.split ∙ ap (λ a. (a ∷ k.front) ++ drop j w) q;
  quotable = k.is.all;
  over = line_over (drop j w) k.is.stop (sym h);
}

-- operators and delimiters

pub one_found : (w : List ℕ) (i : ℕ) (d : Delimiter) → i < length w → is_letter (get_or w i 0) ≡ false → is_digit (get_or w i 0) ≡ false → nat_eq (get_or w i 0) 34 ≡ false → Some d ≡ one_mark (get_or w i 0) → None ≡ two_at (drop i w) → Found (drop i w) (drop (i + 1) w) (Mark d)
one_found w i d lt l g q h e =
    let k = here w i lt in
    let m = after_one w i (get_or w i 0) (drop (suc i) w) k in
    record {
      word = get_or w i 0 ∷ [];
      form = Operator d;
      split = k ∙ ap (λ z. get_or w i 0 ∷ z) (sym m.0);
      is = one_longest (get_or w i 0) (drop (i + 1) w) d l g q (sym h) (λ x y s. sym (e ∙ (ap two_at k ∙ ap (λ z. two_at (get_or w i 0 ∷ z)) (sym m.0 ∙ s))));
      kind_is = refl;
      within = lit< tt;
    }

two_split : (u : List ℕ) (d : Delimiter) → Some d ≡ two_at u → (a : ℕ) × (b : ℕ) × (v : List ℕ) × (u ≡ a ∷ b ∷ v) × (two_mark a b ≡ Some d)
two_split [] d h = cc
two_split (a ∷ []) d h = cc
two_split (a ∷ b ∷ v) d h = (a, b, v, refl, sym h)

pub two_found : (w : List ℕ) (i : ℕ) (d : Delimiter) → i < length w → is_letter (get_or w i 0) ≡ false → is_digit (get_or w i 0) ≡ false → nat_eq (get_or w i 0) 34 ≡ false → Some d ≡ two_at (drop i w) → Found (drop i w) (drop (i + 2) w) (Mark d) × (i + 2 ≤ length w)
two_found w i d lt l g q h =
    let t = two_split (drop i w) d h in
    let k = here w i lt in
    let m = after_two w i t.0 t.1 t.2 t.3 in
    let same : get_or w i 0 ≡ t.0 = (let e = sym k ∙ t.3 in cc) in
    let is = two_longest t.0 t.1 (drop (i + 2) w) d (subst (λ z. is_letter z ≡ false) same l) (subst (λ z. is_digit z ≡ false) same g) (subst (λ z. nat_eq z 34 ≡ false) same q) t.4 in
    (record { word = t.0 ∷ t.1 ∷ []; form = Operator d; split = t.3 ∙ ap (λ z. t.0 ∷ t.1 ∷ z) (sym m.0); is = is; kind_is = refl; within = lit< tt }, m.1)

pub none_found : (w : List ℕ) (i : ℕ) → i < length w → is_letter (get_or w i 0) ≡ false → is_digit (get_or w i 0) ≡ false → nat_eq (get_or w i 0) 34 ≡ false → None ≡ one_mark (get_or w i 0) → NoBeginning (drop i w)
none_found w i lt l g q h = record { byte = get_or w i 0; rest = drop (suc i) w; split = here w i lt; is = λ u. no_beginning (get_or w i 0) u l g q (sym h) }

-- the turns of a scan

pub reads_at : (w : List ℕ) (i from to : ℕ) (kind : Kind) → i ≤ length w → from ≤ length w → to ≤ length w → Past (drop i w) (drop from w) → begins_comment (drop from w) ≡ false → Found (drop from w) (drop to w) kind →
    (more : List Symbol) (e : End) → Scans to (drop to w) more e → Scans i (drop i w) (symbol kind from to ∷ more) e
reads_at w i from to kind h g t p nc s more e x =
    let a = place_of w i from p.gap h g p.split in
    let b = place_of w from to s.word g t s.split in
    let ab : i + length p.gap + length s.word ≡ to = ap (λ n. n + length s.word) a ∙ b in
    let y = reads {i = i} {form = s.form} {more = more} {e = e} (subst (Gap p.gap) s.split p.is) (ap begins_comment (sym s.split) ∙ nc) s.is s.within (subst (λ n. Scans n (drop to w) more e) (sym ab) x) in
    let z = subst (λ n. Scans i (p.gap ++ (s.word ++ drop to w)) (symbol (kind_of s.form) (i + length p.gap) n ∷ more) e) ab y in
    let z' = subst (λ n. Scans i (p.gap ++ (s.word ++ drop to w)) (symbol (kind_of s.form) n to ∷ more) e) a z in
    let z'' = subst (λ (k : Kind). Scans i (p.gap ++ (s.word ++ drop to w)) (symbol k from to ∷ more) e) (sym s.kind_is) z' in
    subst (λ u. Scans i u (symbol kind from to ∷ more) e) (sym (p.split ∙ ap (λ u. p.gap ++ u) s.split)) z''

pub ends_at : (w : List ℕ) (i from : ℕ) → Past (drop i w) (drop from w) → drop from w ≡ [] → Scans i (drop i w) [] Done
ends_at w i from p e =
    let same : drop i w ≡ p.gap = p.split ∙ (ap (λ u. p.gap ++ u) e ∙ append-nil p.gap) in
    subst (λ u. Scans i u [] Done) (sym same) (ends (subst (Gap p.gap) e p.is))

pub open_at : (w : List ℕ) (i from : ℕ) → i ≤ length w → from ≤ length w → Past (drop i w) (drop from w) → begins_comment (drop from w) ≡ true → Scans i (drop i w) [] (Broken 11 from)
open_at w i from h g p c =
    let a = place_of w i from p.gap h g p.split in
    subst (λ u. Scans i u [] (Broken 11 from)) (sym p.split) (subst (λ n. Scans i (p.gap ++ drop from w) [] (Broken 11 n)) a (open_comment p.is c))

-- the rule that is broken where no symbol stands
pub refused_at : (w : List ℕ) (i from : ℕ) (none : NoSymbol) → i ≤ length w → from < length w → Past (drop i w) (drop from w) → begins_comment (drop from w) ≡ false → Refused (drop from w) none → Scans i (drop i w) [] (Broken (rule none) from)
refused_at w i from OpenComment h g p c r = elim r [ ]
refused_at w i from BadByte h g p c r =
    let a = place_of w i from p.gap h (omega arith) p.split in
    let y = bad_byte {i = i} (subst (Gap p.gap) r.split p.is) (ap begins_comment (sym r.split) ∙ c) r.is in
    subst (λ u. Scans i u [] (Broken 10 from)) (sym (p.split ∙ ap (λ u. p.gap ++ u) r.split)) (subst (λ n. Scans i (p.gap ++ (r.byte ∷ r.rest)) [] (Broken 10 n)) a y)
refused_at w i from OpenString h g p c r =
    let a = place_of w i from p.gap h (omega arith) p.split in
    subst (λ u. Scans i u [] (Broken 12 from)) (sym p.split) (subst (λ n. Scans i (p.gap ++ drop from w) [] (Broken 12 n)) a (open_string p.is r))
refused_at w i from NumberTooLarge h g p c r =
    let a = place_of w i from p.gap h (omega arith) p.split in
    let y = too_large {i = i} (subst (Gap p.gap) r.split p.is) (ap begins_comment (sym r.split) ∙ c) r.is r.past in
    subst (λ u. Scans i u [] (Broken 13 from)) (sym (p.split ∙ ap (λ u. p.gap ++ u) r.split)) (subst (λ n. Scans i (p.gap ++ (r.word ++ r.rest)) [] (Broken 13 n)) a y)
refused_at w i from NameTooLong h g p c r =
    let a = place_of w i from p.gap h (omega arith) p.split in
    let y = too_long {i = i} (subst (Gap p.gap) r.split p.is) (ap begins_comment (sym r.split) ∙ c) r.is r.past in
    subst (λ u. Scans i u [] (Broken 14 from)) (sym (p.split ∙ ap (λ u. p.gap ++ u) r.split)) (subst (λ n. Scans i (p.gap ++ (r.word ++ r.rest)) [] (Broken 14 n)) a y)

-- a symbol that was found, or not, and what was made of it

pub reads_found : (w : List ℕ) (from to : ℕ) (old new : List Symbol) (found : Result (Kind × ℕ) NoSymbol) → IfOk found (λ x. Found (drop from w) (drop x.1 w) x.0) → IfOk found (λ x. (from < x.1) × (x.1 ≤ length w)) → IsAdded from old new found to → Reads w from old new to
reads_found w from to old new (Err none) f r a = absurd a
reads_found w from to old new (Ok x) f r a = subst (λ n. Reads w from old new n) (sym a.0) (record { kind = x.0; found = f; low = r.0; high = r.1; added = a.1 })

pub stops_refused : (w : List ℕ) (from : ℕ) (found : Result (Kind × ℕ) NoSymbol) (e : ScanFault) → IfErr found (λ none. Refused (drop from w) none) → IsRefused from found e → Stops w from e
stops_refused w from (Ok x) (Fault number at) f r = absurd r
stops_refused w from (Err none) (Fault number at) f r = record { none = none; number_is = r.0; at_is = r.1; refused = f }
stops_refused w from (Ok x) Memory f r = tt
stops_refused w from (Err none) Memory f r = tt

-- the symbols so far are a beginning of those of the text
abbrev pub SoFar : List ℕ → List Symbol → ℕ → Type 0
SoFar w items i = (more : List Symbol) (e : End) → Scans i (drop i w) more e → Scans zero w (items ++ more) e

pub so_far_read : (w : List ℕ) (i from to : ℕ) (old new : List Symbol) → SoFar w old i → i ≤ length w → Past (drop i w) (drop from w) → from ≤ length w → begins_comment (drop from w) ≡ false → Reads w from old new to → SoFar w new to
so_far_read w i from to old new so h p g c r = λ more e x.
    (let s = so (symbol r.kind from to ∷ more) e (reads_at w i from to r.kind h g r.high p c r.found more e x) in
    subst (λ v. Scans zero w (v ++ more) e) (sym r.added) (subst (λ v. Scans zero w v e) (sym (append_assoc old (symbol r.kind from to ∷ []) more)) s))

pub first_stop : (w : List ℕ) (i from : ℕ) (items : List Symbol) (e : ScanFault) → SoFar w items i → i ≤ length w → Past (drop i w) (drop from w) → from < length w → begins_comment (drop from w) ≡ false → Stops w from e → IsFirst w e
first_stop w i from items Memory so h p g c s = tt
first_stop w i from items (Fault number at) so h p g c s =
    let k = subst (λ n. Scans i (drop i w) [] (Broken n from)) (sym s.number_is) (refused_at w i from s.none h g p c s.refused) in
    (items ++ [], so [] (Broken number at) (subst (λ n. Scans i (drop i w) [] (Broken number n)) (sym s.at_is) k))

pub all_read : (w : List ℕ) (i from : ℕ) (items : List Symbol) → SoFar w items i → Past (drop i w) (drop from w) → drop from w ≡ [] → Scans zero w items Done
all_read w i from items so p e = subst (λ v. Scans zero w v Done) (append-nil items) (so [] Done (ends_at w i from p e))
