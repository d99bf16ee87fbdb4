-- How a list is read.
use Rattle.std.proofs.Common.{◌≡◌, ◌≢◌, ℕ, zero, suc, List, [], ◌∷◌, ◌++◌, ◌+◌, ◌-◌, ◌<◌, ◌≤◌, length, map, take, drop, get_or, sym, refl, ap, ◌∙◌, subst, inl, inr, arith, eqb, add-one, below_more, Vec, Option, Some, None, MatchOption}
use Rattle.std.proofs.lemmas.List.{take_more, map-append}
use Rattle.std.specs.Global.{Global}
use Rattle.std.proofs.lemmas.List.Splits.{length-slice_split}
use Rattle.std.proofs.lemmas.List.Sums.{count_by-le-length}
use Rattle.std.specs.List.{AllZip}
use Rattle.batch_list.specs.Form.{ListLine, rows_of, words_of, NoneIsEmpty, SomeIsEmpty, IsRowOf, AllForm, AreLines, IsFirstBad}
use Rattle.batch_list.specs.Lists.{plain_line}
use Rattle.batch_list.specs.declared.line.JobLine.{JobLine}

-- the line is that of the row
abbrev pub IsLineOf : List ℕ → JobLine → Type 0
IsLineOf row line = IsRowOf row (plain_line line)

-- words of a line

first_of : (w : List ℕ) (rest W : List (List ℕ)) → W ≡ w ∷ rest → get_or W 0 [] ≡ w
first_of w rest W e = ap (λ l. get_or l 0 []) e

pub too_few : (row : List ℕ) (W : List (List ℕ)) → W ≡ words_of row → length W < 2 → (line : ListLine) → ¬ IsRowOf row line
too_few row W e few line f =
    let n : length W ≡ suc (length line.names) = ap length (e ∙ f.words) in let m = f.some_name in absurd (omega arith)

pub no_digit : (row : List ℕ) (W : List (List ℕ)) (w : List ℕ) → W ≡ words_of row → w ≡ get_or W 0 [] → w ≢ 48 ∷ [] → w ≢ 49 ∷ []
    → (line : ListLine) → ¬ IsRowOf row line
no_digit row W w e first zero_not one_not line f =
    let is : w ≡ (48 + line.sender) ∷ [] = first ∙ first_of ((48 + line.sender) ∷ []) line.names W (e ∙ f.words) in
    by_digit line.sender is f.submitter where
      by_digit : (d : ℕ) → w ≡ (48 + d) ∷ [] → d < 2 → ⊥
      by_digit zero is small = zero_not is
      by_digit (suc zero) is small = one_not is
      by_digit (suc (suc d)) is small = absurd (omega arith)

drop_one : {A : Type 0} (x : A) (xs W : List A) → W ≡ x ∷ xs → drop 1 W ≡ xs
drop_one x xs W e = ap (drop 1) e

pub empty_name : (row : List ℕ) (W : List (List ℕ)) → W ≡ words_of row → SomeIsEmpty (drop 1 W)
    → (line : ListLine) → ¬ IsRowOf row line
empty_name row W e some_empty line f =
    let rest : drop 1 W ≡ line.names = drop_one ((48 + line.sender) ∷ []) line.names W (e ∙ f.words) in
    let there = subst SomeIsEmpty rest some_empty in
    let long = f.named there.0 there.1 in
    let none : length (get_or line.names there.0 []) ≡ 0 = ap length there.2 in absurd (omega arith)

whole : (W : List (List ℕ)) (w : List ℕ) → 1 ≤ length W → get_or W 0 [] ≡ w → W ≡ w ∷ drop 1 W
whole [] w some e = absurd (omega arith)
whole (x ∷ xs) w some e = ap (λ l. l ∷ xs) e

pub form_of : (row : List ℕ) (W names : List (List ℕ)) (s : ℕ) (w : List ℕ) → W ≡ words_of row → 2 ≤ length W → w ≡ get_or W 0 [] → w ≡ (48 + s) ∷ [] → s < 2
    → names ≡ drop 1 W → NoneIsEmpty (drop 1 W) → IsRowOf row (record { sender = s; names = names })
form_of row W names s w e many first is small all named = record {
  words = sym e ∙ (whole W ((48 + s) ∷ []) (omega arith) (sym first ∙ is) ∙ ap (λ l. ((48 + s) ∷ []) ∷ l) (sym all));
  submitter = small;
  some_name = let n = length_rest W in let m : length names ≡ length (drop 1 W) = ap length all in omega arith;
  named = subst NoneIsEmpty (sym all) named;
} where
  length_rest : (V : List (List ℕ)) → length (drop 1 V) ≡ length V - 1
  length_rest [] = refl
  length_rest (x ∷ xs) = omega arith

-- rows of a text

pub some_row : (text : List ℕ) (W : List (List ℕ)) → W ≡ rows_of text → 0 < length W
some_row text W e = omega (arith, ap length e, length-slice_split (λ b. eqb b 10) text)

pub few_rows : (text : List ℕ) (W : List (List ℕ)) → W ≡ rows_of text → length W ≤ length text + 1
few_rows text W e = omega (arith, ap length e, length-slice_split (λ b. eqb b 10) text, count_by-le-length (λ b. eqb b 10) text)

all_form : (rows : List (List ℕ)) (lines : List JobLine) → AllZip IsLineOf rows lines → AllForm rows
all_form [] [] all = tt
all_form [] (y ∷ ys) all = tt
all_form (x ∷ xs) [] all = absurd all
all_form (x ∷ xs) (y ∷ ys) all = ((plain_line y, all.0), all_form xs ys all.1)

-- the same without places in memory
plain_each : (rows : List (List ℕ)) (lines : List JobLine) → AllZip IsLineOf rows lines → AllZip IsRowOf rows (map plain_line lines)
plain_each [] [] all = tt
plain_each [] (y ∷ ys) all = absurd all
plain_each (x ∷ xs) [] all = absurd all
plain_each (x ∷ xs) (y ∷ ys) all = (all.0, plain_each xs ys all.1)

zip_push : {J A : Type 0} (R : J → A → Type 0) (xs : List J) (ys : List A) (x : J) (y : A) → AllZip R xs ys → R x y → AllZip R (xs ++ x ∷ []) (ys ++ y ∷ [])
zip_push R [] [] x y all r = (r, tt)
zip_push R [] (b ∷ bs) x y all r = absurd all
zip_push R (a ∷ as') [] x y all r = absurd all
zip_push R (a ∷ as') (b ∷ bs) x y all r = (all.0, zip_push R as' bs x y all.1 r)

pub one_line_more : (W : List (List ℕ)) (lines now : List JobLine) (i : ℕ) (row : List ℕ) (line : JobLine) → i < length W → row ≡ get_or W i []
    → AllZip IsLineOf (take i W) lines → IsLineOf row line → now ≡ lines ++ line ∷ [] → AllZip IsLineOf (take (i + 1) W) now
one_line_more W lines now i row line small its so_far is more =
    let cut : take (i + 1) W ≡ take i W ++ row ∷ [] = take_more W i [] small ∙ ap (λ r. take i W ++ r ∷ []) (sym its) in
    subst (AllZip IsLineOf (take (i + 1) W)) (sym more) (subst (λ l. AllZip IsLineOf l (lines ++ line ∷ [])) (sym cut) (zip_push IsLineOf (take i W) lines row line so_far is))

cut_suc : (W : List (List ℕ)) (i : ℕ) → i < length W → W ≡ take i W ++ get_or W i [] ∷ drop (suc i) W
cut_suc [] i small = absurd (omega arith)
cut_suc (x ∷ xs) zero small = refl
cut_suc (x ∷ xs) (suc i) small = ap (λ l. x ∷ l) (cut_suc xs i (omega arith))

cut_at : (W : List (List ℕ)) (i : ℕ) → i < length W → W ≡ take i W ++ get_or W i [] ∷ drop (i + 1) W
cut_at W i small = cut_suc W i small ∙ ap (λ n. take i W ++ get_or W i [] ∷ drop n W) (sym (add-one i))

length_take : (W : List (List ℕ)) (i : ℕ) → i ≤ length W → length (take i W) ≡ i
length_take W zero small = refl
length_take [] (suc i) small = absurd (omega arith)
length_take (x ∷ xs) (suc i) small = ap suc (length_take xs i (omega arith))

length_drop : (W : List (List ℕ)) (i : ℕ) → length (drop i W) ≡ length W - i
length_drop W zero = omega arith
length_drop [] (suc i) = omega arith
length_drop (x ∷ xs) (suc i) = let e = length_drop xs i in omega arith

pub bad_row : (text : List ℕ) (W : List (List ℕ)) (lines : List JobLine) (i : ℕ) (row : List ℕ) → W ≡ rows_of text → i + 1 < length W → row ≡ get_or W i []
    → AllZip IsLineOf (take i W) lines → ((line : ListLine) → ¬ IsRowOf row line) → IsFirstBad text (i + 1)
bad_row text W lines i row e small its so_far no_form = record {
  good = take i W;
  bad = row;
  more = drop (i + 1) W;
  rows = sym e ∙ (cut_at W i (omega arith) ∙ ap (λ r. take i W ++ r ∷ drop (i + 1) W) (sym its));
  count = ap (λ n. n + 1) (sym (length_take W i (omega arith)));
  before = all_form (take i W) lines so_far;
  wrong = inr ((λ none. let n = length_drop W (i + 1) in let m : length (drop (i + 1) W) ≡ 0 = ap length none in absurd (omega arith)), no_form);
}

nothing_after : (W : List (List ℕ)) (i : ℕ) → length W ≤ i → drop i W ≡ []
nothing_after [] zero small = refl
nothing_after [] (suc i) small = refl
nothing_after (x ∷ xs) zero small = absurd (omega arith)
nothing_after (x ∷ xs) (suc i) small = nothing_after xs i (omega arith)

pub no_end : (text : List ℕ) (W : List (List ℕ)) (lines : List JobLine) (i : ℕ) (row : List ℕ) → W ≡ rows_of text → i + 1 ≡ length W → row ≡ get_or W i []
    → AllZip IsLineOf (take i W) lines → 0 < length row → IsFirstBad text (i + 1)
no_end text W lines i row e last its so_far some = record {
  good = take i W;
  bad = row;
  more = [];
  rows = sym e ∙ (cut_at W i (omega arith) ∙ ((λ j. take i W ++ sym its j ∷ nothing_after W (i + 1) (omega arith) j)));
  count = ap (λ n. n + 1) (sym (length_take W i (omega arith)));
  before = all_form (take i W) lines so_far;
  wrong = inl (refl, λ none. let m : length row ≡ 0 = ap length none in absurd (omega arith));
}

pub all_lines : (text : List ℕ) (W : List (List ℕ)) (lines : List JobLine) (i : ℕ) (row : List ℕ) → W ≡ rows_of text → i + 1 ≡ length W → row ≡ get_or W i []
    → AllZip IsLineOf (take i W) lines → length row ≡ 0 → AreLines text (map plain_line lines)
all_lines text W lines i row e last its so_far none = record {
  good = take i W;
  rows = sym e ∙ (cut_at W i (omega arith) ∙ ((λ j. take i W ++ (sym its ∙ is_empty row none) j ∷ nothing_after W (i + 1) (omega arith) j)));
  each = plain_each (take i W) lines so_far;
} where
  is_empty : (r : List ℕ) → length r ≡ 0 → r ≡ []
  is_empty [] e = refl
  is_empty (x ∷ xs) e = absurd (omega arith)

-- one more name
pub names_more : (W : List (List ℕ)) (names now : List (Vec ℕ Global)) (i : ℕ) (n : Vec ℕ Global) (w : List ℕ)
    → map (λ (v : Vec ℕ Global). v.items) names ≡ take i W → ((k : ℕ) → k < i → 0 < length (get_or W k [])) → i < length W → w ≡ get_or W i [] → n.items ≡ w → length w ≢ 0 → now ≡ names ++ n ∷ []
    → (map (λ (v : Vec ℕ Global). v.items) now ≡ take (i + 1) W) × ((k : ℕ) → k < i + 1 → 0 < length (get_or W k []))
names_more W names now i n w so_far full small its same some more = (
  ap (map (λ (v : Vec ℕ Global). v.items)) more ∙ (map-append (λ (v : Vec ℕ Global). v.items) names (n ∷ []) ∙ ((λ j. so_far j ++ (same ∙ its) j ∷ []) ∙ sym (take_more W i [] small))),
  below_more (λ k. 0 < length (get_or W k [])) i full (let e : length w ≡ length (get_or W i []) = ap length its in omega arith),
)

-- what is seen behind a reference of a list
pub seen_at : {B : Type 0} (f : B → List ℕ) (xs : List B) (i : ℕ) (d : B) → f d ≡ [] → f (get_or xs i d) ≡ get_or (map f xs) i []
seen_at f [] i d e = e
seen_at f (x ∷ xs) zero d e = refl
seen_at f (x ∷ xs) (suc i) d e = seen_at f xs i d e

pub seen_of : {B : Type 0} (f : B → List ℕ) (xs : List B) (i : ℕ) (x : B) → i < length xs → x ≡ get_or xs i x → f x ≡ get_or (map f xs) i []
seen_of f [] i x small e = absurd (omega arith)
seen_of f (y ∷ ys) zero x small e = ap f e
seen_of f (y ∷ ys) (suc i) x small e = seen_of f ys i x (omega arith) e

pub found_line : (row : List ℕ) (o : Option JobLine) (l : JobLine) → o ≡ Some l
    → MatchOption o ((line : ListLine) → ¬ IsRowOf row line) (λ (m : JobLine). IsLineOf row m) → IsLineOf row l
found_line row o l is found = subst (λ p. MatchOption p ((line : ListLine) → ¬ IsRowOf row line) (λ (m : JobLine). IsLineOf row m)) is found

pub found_none : (row : List ℕ) (o : Option JobLine) → o ≡ None
    → MatchOption o ((line : ListLine) → ¬ IsRowOf row line) (λ (m : JobLine). IsLineOf row m)
    → (line : ListLine) → ¬ IsRowOf row line
found_none row o is found = subst (λ p. MatchOption p ((line : ListLine) → ¬ IsRowOf row line) (λ (m : JobLine). IsLineOf row m)) is found
