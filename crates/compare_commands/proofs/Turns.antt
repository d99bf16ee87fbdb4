-- From one row to the next.
use Rattle.std.proofs.Common.{◌≡◌, ℕ, suc, ◌+◌, ◌<◌, List, [], ◌∷◌, ◌++◌, length, map, take, get_or, sym, ap, ◌∙◌, subst, arith, append_assoc}
use Rattle.std.specs.Prelude.{All}
use Rattle.std.specs.List.{flat_map}
use Rattle.std.proofs.lemmas.List.{map-append, take_more}
use Rattle.std.proofs.lemmas.List.Elements.{All-append, All-cons, All-nil}

---- Rows that are taken

module _ {X : Type 0} (x : X) (rest old : List X) (first : old ≡ x ∷ rest) where
  -- what holds of all holds of the first, and of all behind it
  pub all_of_first : (P : X → Type 0) → All P old → P x × All P rest
  all_of_first P all = let each = subst (All P) first all in (each 0 x (omega arith), λ k d lt. each (suc k) d (omega (arith, lt)))

  -- the line of the first was appended to a text, and those of the others will be
  pub line_told : (line : X → List ℕ) (text after whole : List ℕ) → text ++ flat_map line old ≡ whole → after ≡ text ++ line x → after ++ flat_map line rest ≡ whole
  line_told line text after whole told is =
      ap (λ t. t ++ flat_map line rest) is
      ∙ append_assoc text (line x) (flat_map line rest)
      ∙ ap (λ xs. text ++ flat_map line xs) (sym first)
      ∙ told

---- Rows that are made

-- one more row, of the next choice
pub row_made : {X C : Type 0} (choice_of : X → C) (rows more : List X) (choices : List C) (i : ℕ) (x : X) (d : C) → i < length choices → map choice_of rows ≡ take i choices
    → choice_of x ≡ get_or choices i d → more ≡ rows ++ x ∷ [] → map choice_of more ≡ take (i + 1) choices
row_made choice_of rows more choices i x d lt so_far is after =
    ap (map choice_of) after
    ∙ map-append choice_of rows (x ∷ [])
    ∙ ap (λ cs. cs ++ choice_of x ∷ []) so_far
    ∙ ap (λ c. take i choices ++ c ∷ []) is
    ∙ sym (take_more choices i d lt)

pub all_made : {X : Type 0} (P : X → Type 0) (rows more : List X) (x : X) → All P rows → P x → more ≡ rows ++ x ∷ [] → All P more
all_made P rows more x all one after = subst (All P) (sym after) (All-append P rows (x ∷ []) all (All-cons P x [] one (All-nil P)))
