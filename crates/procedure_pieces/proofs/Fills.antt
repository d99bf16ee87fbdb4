-- Words that come out of others when holes are filled, whatever stands before and behind.
use Rattle.std.proofs.Common.{◌≡◌, ℕ, suc, ◌+◌, ◌≤◌, List, [], ◌∷◌, ◌++◌, map, length, refl, arith, sym, ap, ap₂, ◌∙◌, subst, append_assoc, length-append}
use Rattle.std.specs.Prelude.{slice_set}
use Rattle.run_laws.specs.Layers.{whole_width, spread}
use Rattle.run_laws.proofs.Weights.{append-nil}
use Rattle.a64_instr.specs.declared.instr.Instr.{Instr}
use Rattle.a64_table.specs.Table.{word_of}
use Rattle.placed_code.proofs.Parts.{length_map}
use Rattle.procedure_pieces.specs.Pieces.{What, Hole, put_in, all_filled}

pub map_append : {A B : Type 0} (f : A → B) (xs ys : List A) → map f (xs ++ ys) ≡ map f xs ++ map f ys
map_append f [] ys = refl
map_append f (x ∷ xs) ys = ap (λ l. f x ∷ l) (map_append f xs ys)

set_behind : {A : Type 0} (xs ys : List A) (x y : A) → slice_set (xs ++ (x ∷ ys)) (length xs) y ≡ xs ++ (y ∷ ys)
set_behind [] ys x y = refl
set_behind (z ∷ xs) ys x y = ap (λ l. z ∷ l) (set_behind xs ys x y)

module _ (entry : ℕ → ℕ) (start k : ℕ) where
  -- is, of which the first is word n, become js
  pub record Fills (n : ℕ) (is : List Instr) (hs : List Hole) (js : List Instr) : Type 0 where
    pub same : length js ≡ length is
    pub fills : (before after : List ℕ) → length before ≡ n → all_filled entry start k hs (before ++ (map word_of is ++ after)) ≡ before ++ (map word_of js ++ after)

  filled-append : (hs gs : List Hole) (ws : List ℕ) → all_filled entry start k (hs ++ gs) ws ≡ all_filled entry start k gs (all_filled entry start k hs ws)
  filled-append [] gs ws = refl
  filled-append (h ∷ hs) gs ws = filled-append hs gs (slice_set ws h.at (word_of (put_in entry start (k + h.at) h.what)))

  pub fills_none : (n : ℕ) (is : List Instr) → Fills n is [] is
  fills_none n is = record { same = refl; fills = λ before after e. refl }

  pub fills_same : (n : ℕ) (is js : List Instr) → js ≡ is → Fills n is [] js
  fills_same n is js e = subst (λ l. Fills n is [] l) (sym e) (fills_none n is)

  pub fills_one : (n : ℕ) (i : Instr) (what : What) → Fills n (i ∷ []) (record { at = n; what = what } ∷ []) (put_in entry start (k + n) what ∷ [])
  fills_one n i what = record {
    same = refl;
    fills = λ before after e.
        let w = word_of (put_in entry start (k + n) what) in
        ap (λ m. slice_set (before ++ (word_of i ∷ after)) m w) (sym e) ∙ set_behind before after (word_of i) w;
  }

  pub fills_append : (n m : ℕ) (is is' : List Instr) (hs hs' : List Hole) (js js' : List Instr) → m ≡ n + length is → Fills n is hs js → Fills m is' hs' js' → Fills n (is ++ is') (hs ++ hs') (js ++ js')
  fills_append n m is is' hs hs' js js' next one two = record {
    same = length-append js js' ∙ ap₂ (λ a b. a + b) one.same two.same ∙ sym (length-append is is');
    fills = λ before after e.
        let ws = map word_of is in let ws' = map word_of is' in let vs = map word_of js in let vs' = map word_of js' in
        let apart : before ++ (map word_of (is ++ is') ++ after) ≡ before ++ (ws ++ (ws' ++ after)) = ap (λ l. before ++ (l ++ after)) (map_append word_of is is') ∙ ap (λ l. before ++ l) (append_assoc ws ws' after) in
        let long : length (before ++ vs) ≡ m = length-append before vs ∙ ap₂ (λ a b. a + b) e (length_map word_of js ∙ one.same) ∙ sym next in
        let together : (before ++ vs) ++ (vs' ++ after) ≡ before ++ (map word_of (js ++ js') ++ after) =
        append_assoc before vs (vs' ++ after) ∙ ap (λ l. before ++ l) (sym (append_assoc vs vs' after) ∙ ap (λ l. l ++ after) (sym (map_append word_of js js'))) in
        ap (λ l. all_filled entry start k (hs ++ hs') l) apart
        ∙ filled-append hs hs' (before ++ (ws ++ (ws' ++ after)))
        ∙ ap (λ l. all_filled entry start k hs' l) (one.fills before (ws' ++ after) e ∙ sym (append_assoc before vs (ws' ++ after)))
        ∙ two.fills (before ++ vs) after long
        ∙ together;
  }

  -- words without holes behind
  pub fills_before : (n : ℕ) (is is' : List Instr) (hs : List Hole) (js js' : List Instr) → js' ≡ is' → Fills n is hs js → Fills n (is ++ is') hs (js ++ js')
  fills_before n is is' hs js js' e one =
      subst (λ gs. Fills n (is ++ is') gs (js ++ js')) (append-nil hs) (fills_append n (n + length is) is is' hs [] js js' refl one (fills_same (n + length is) is' js' e))

  -- items in a row
  module _ {A : Type 0} (limit : ℕ) (width : ℕ → A → ℕ) (f g : ℕ → ℕ → A → List Instr) (h : ℕ → ℕ → A → List Hole)
      (sizes : (i n : ℕ) (x : A) → length (f i n x) ≡ width i x)
      (each : (i n : ℕ) (x : A) → n + width i x ≤ limit → Fills n (f i n x) (h i n x) (g i (k + n) x)) where
    pub fills_row : (i n : ℕ) (xs : List A) → n + whole_width width i xs ≤ limit → Fills n (spread f width i n xs) (spread h width i n xs) (spread g width i (k + n) xs)
    fills_row i n [] l = fills_none n []
    fills_row i n (x ∷ xs) l =
        let next : n + width i x ≡ n + length (f i n x) = ap (λ m. n + m) (sym (sizes i n x)) in
        let place : k + (n + width i x) ≡ k + n + width i x = omega arith in
        let rest = subst (λ m. Fills (n + width i x) (spread f width (suc i) (n + width i x) xs) (spread h width (suc i) (n + width i x) xs) (spread g width (suc i) m xs)) place
        (fills_row (suc i) (n + width i x) xs (omega (arith, l))) in
        fills_append n (n + width i x) (f i n x) (spread f width (suc i) (n + width i x) xs) (h i n x) (spread h width (suc i) (n + width i x) xs) (g i (k + n) x) (spread g width (suc i) (k + n + width i x) xs)
        next (each i n x (omega (arith, l))) rest

-- and with nothing before or behind
pub filled_alone : (entry : ℕ → ℕ) (start k : ℕ) (is : List Instr) (hs : List Hole) (js : List Instr) → Fills entry start k 0 is hs js → map word_of js ≡ all_filled entry start k hs (map word_of is)
filled_alone entry start k is hs js f =
    sym (append-nil (map word_of js)) ∙ sym (f.fills [] [] refl) ∙ ap (λ l. all_filled entry start k hs l) (append-nil (map word_of is))
