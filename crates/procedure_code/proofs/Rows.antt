-- Words appended item by item, and what results say.
use Rattle.std.proofs.Common.{◌≡◌, ℕ, zero, suc, ◌+◌, ◌<◌, List, [], ◌∷◌, ◌++◌, map, length, drop, get_or, Ok, Err, ◌^◌, refl, arith, sym, ap, ap₂, ◌∙◌, append_assoc, length-append}
use Rattle.std.proofs.lemmas.List.{drop_more}
use Rattle.std.specs.Prelude.{Result, IfErr, OnOk, IsErrAnd}
use Rattle.run_laws.specs.Layers.{width_before, whole_width, spread}
use Rattle.a64_instr.specs.declared.instr.Instr.{Instr}
use Rattle.a64_table.specs.Table.{word_of}
use Rattle.placed_code.proofs.Parts.{length_map}
use Rattle.procedure_pieces.proofs.Fills.{map_append}

-- words behind others are as many more
pub longer : (old new : List ℕ) (is : List Instr) → new ≡ old ++ map word_of is → length new ≡ length old + length is
longer old new is e = ap length e ∙ length-append old (map word_of is) ∙ ap (λ n. length old + n) (length_map word_of is)

module _ {A : Type 0} (contents : ℕ → ℕ → A → List Instr) (width : ℕ → A → ℕ) (sizes : (j k : ℕ) (x : A) → length (contents j k x) ≡ width j x) where
  -- one more item's words are appended
  pub row_more : (j i : ℕ) (x : A) (xs : List A) (old new all : List ℕ) → i ≡ suc j → new ≡ old ++ map word_of (contents j (length old) x)
      → old ++ map word_of (spread contents width j (length old) (x ∷ xs)) ≡ all → new ++ map word_of (spread contents width i (length new) xs) ≡ all
  row_more j i x xs old new all is e inv =
      let long : length new ≡ length old + width j x = longer old new (contents j (length old) x) e ∙ ap (λ n. length old + n) (sizes j (length old) x) in
      let rest = spread contents width (suc j) (length old + width j x) xs in
      ap (λ n. new ++ map word_of (spread contents width n (length new) xs)) is
      ∙ ap (λ n. new ++ map word_of (spread contents width (suc j) n xs)) long
      ∙ ap (λ (l : List ℕ). l ++ map word_of rest) e
      ∙ append_assoc old (map word_of (contents j (length old) x)) (map word_of rest)
      ∙ ap (λ (l : List ℕ). old ++ l) (sym (map_append word_of (contents j (length old) x) rest)) ∙ inv

-- what stands before an item and what stands from it on is all
pub before_and_behind : {A : Type 0} (width : ℕ → A → ℕ) (j : ℕ) (xs : List A) (n : ℕ) → width_before width j xs n + whole_width width (j + n) (drop n xs) ≡ whole_width width j xs
before_and_behind width j [] zero = omega arith
before_and_behind width j [] (suc n) = omega arith
before_and_behind width j (x ∷ xs) zero = let z : j + 0 ≡ j = omega arith in let m = ap (λ n. whole_width width n (x ∷ xs)) z in omega (arith, m)
before_and_behind width j (x ∷ xs) (suc n) =
    let z : j + suc n ≡ suc j + n = omega arith in
    let r = before_and_behind width (suc j) xs n in
    let m = ap (λ i. whole_width width i (drop n xs)) z in
    omega (arith, r, m)

---- Results

pub errs_with : {A E : Type 0} (P Q : E → Type 0) (r : Result A E) → IsErrAnd r P → ((e : E) → P e → Q e) → IfErr r Q
errs_with P Q (Ok x) is f = tt
errs_with P Q (Err e) is f = f e is

---- A part that is too wide

pub one_over : {A : Type 0} (width : ℕ → A → ℕ) (xs : List A) (i : ℕ) (x : A) (rest : List A) → drop i xs ≡ x ∷ rest → 2 ^ 18 < width i x → 2 ^ 18 < whole_width width 0 xs
one_over {A} width xs i x rest e l =
    let all = before_and_behind width 0 xs i in
    let z : 0 + i ≡ i = omega arith in
    let here : whole_width width (0 + i) (drop i xs) ≡ width i x + whole_width width (suc i) rest = ap₂ (λ m (ys : List A). whole_width width m ys) z e in
    omega (arith, all, here, l)

pub drop_map : {A B : Type 0} (f : A → B) (xs : List A) (i : ℕ) → drop i (map f xs) ≡ map f (drop i xs)
drop_map f [] zero = refl
drop_map f [] (suc i) = refl
drop_map f (x ∷ xs) zero = refl
drop_map f (x ∷ xs) (suc i) = drop_map f xs i

-- an item of a list, mapped, and the others
pub mapped_more : {A B : Type 0} (f : A → B) (xs : List A) (i : ℕ) (x : A) → i < length xs → x ≡ get_or xs i x → map f (drop i xs) ≡ f x ∷ map f (drop (i + 1) xs)
mapped_more f xs i x l is = ap (map f) (drop_more xs i x l) ∙ ap (λ y. f y ∷ map f (drop (i + 1) xs)) (sym is)

pub on_ok_more : {A E : Type 0} (P Q : Type 0) (r : Result A E) → (P → Q) → OnOk r P → OnOk r Q
on_ok_more P Q (Ok x) f h = f h
on_ok_more P Q (Err e) f h = h
