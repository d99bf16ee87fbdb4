-- Strings of one procedure after the other.
use Rattle.std.proofs.Common.{◌≡◌, ℕ, zero, suc, ◌+◌, ◌<◌, ◌≤◌, List, [], ◌∷◌, ◌++◌, take, drop, length, length-append, get_or, refl, sym, ap, ap₂, ◌∙◌, arith, append_assoc}
use Rattle.std.proofs.lemmas.List.{drop_more}
use Rattle.std.proofs.Math.ListN.{drop_of_length-le}
use Rattle.ob_types.specs.Meaning.{texts_of}
use Rattle.ob_types.specs.declared.program.Procedure.{Procedure}
use Rattle.ssa_lowered.specs.Data.{within}
use Rattle.ssa_tables.specs.Places.{starts, string_size, finish, string_cells}
use Rattle.ssa_tables.specs.Strings.{Adds, Counts, first_strings}

pub text_more : (texts rest : List (List ℕ)) (i : ℕ) (x : List ℕ) (at next : ℕ) (old new all : List ℕ) → i < length texts → x ≡ get_or texts i x → new ≡ old ++ at ∷ [] → next ≡ within (at + string_size x) → old ++ starts string_size at (drop i texts ++ rest) ≡ all → new ++ starts string_size next (drop (i + 1) texts ++ rest) ≡ all
text_more texts rest i x at next old new all lt is more there before =
    let e : drop i texts ≡ x ∷ drop (i + 1) texts = drop_more texts i x lt ∙ ap (λ y. y ∷ drop (i + 1) texts) (sym is) in
    ap₂ (λ l n. l ++ starts string_size n (drop (i + 1) texts ++ rest)) more there
    ∙ append_assoc old (at ∷ []) (starts string_size (within (at + string_size x)) (drop (i + 1) texts ++ rest))
    ∙ sym (ap (λ ys. old ++ starts string_size at (ys ++ rest)) e)
    ∙ before

pub texts_end : (texts rest : List (List ℕ)) (i at : ℕ) (list all : List ℕ) → length texts ≤ i → list ++ starts string_size at (drop i texts ++ rest) ≡ all → list ++ starts string_size at rest ≡ all
texts_end texts rest i at list all le before = sym (ap (λ ys. list ++ starts string_size at (ys ++ rest)) (drop_of_length-le texts le)) ∙ before

pub procedure_more : (qs : List Procedure) (i : ℕ) (q : Procedure) (at next : ℕ) (old new all : List ℕ) → i < length qs → q ≡ get_or qs i q → Adds old new at next q.texts → old ++ starts string_size at (texts_of (drop i qs)) ≡ all → new ++ starts string_size next (texts_of (drop (i + 1) qs)) ≡ all
procedure_more qs i q at next old new all lt is adds before =
    let e : drop i qs ≡ q ∷ drop (i + 1) qs = drop_more qs i q lt ∙ ap (λ y. y ∷ drop (i + 1) qs) (sym is) in
    adds.by (texts_of (drop (i + 1) qs))
    ∙ sym (ap (λ ys. old ++ starts string_size at (texts_of ys)) e)
    ∙ before

pub procedures_end : (qs : List Procedure) (i at : ℕ) (old new all : List ℕ) → length qs ≤ i → new ≡ old ++ at ∷ [] → old ++ starts string_size at (texts_of (drop i qs)) ≡ all → new ≡ all
procedures_end qs i at old new all le more before = more ∙ sym (ap (λ ys. old ++ starts string_size at (texts_of ys)) (drop_of_length-le qs le)) ∙ before

---- Their cells

pub text_counted : (texts rest : List (List ℕ)) (i : ℕ) (x : List ℕ) (at next end : ℕ) → i < length texts → x ≡ get_or texts i x → next ≡ within (at + string_cells x) → finish string_cells at (drop i texts ++ rest) ≡ end → finish string_cells next (drop (i + 1) texts ++ rest) ≡ end
text_counted texts rest i x at next end lt is there before =
    let e : drop i texts ≡ x ∷ drop (i + 1) texts = drop_more texts i x lt ∙ ap (λ y. y ∷ drop (i + 1) texts) (sym is) in
    ap (λ n. finish string_cells n (drop (i + 1) texts ++ rest)) there ∙ sym (ap (λ ys. finish string_cells at (ys ++ rest)) e) ∙ before

pub texts_counted : (texts rest : List (List ℕ)) (i at end : ℕ) → length texts ≤ i → finish string_cells at (drop i texts ++ rest) ≡ end → finish string_cells at rest ≡ end
texts_counted texts rest i at end le before = sym (ap (λ ys. finish string_cells at (ys ++ rest)) (drop_of_length-le texts le)) ∙ before

pub procedure_counted : (qs : List Procedure) (i : ℕ) (q : Procedure) (at next end : ℕ) → i < length qs → q ≡ get_or qs i q → Counts at next q.texts → finish string_cells at (texts_of (drop i qs)) ≡ end → finish string_cells next (texts_of (drop (i + 1) qs)) ≡ end
procedure_counted qs i q at next end lt is counts before =
    let e : drop i qs ≡ q ∷ drop (i + 1) qs = drop_more qs i q lt ∙ ap (λ y. y ∷ drop (i + 1) qs) (sym is) in
    counts.by (texts_of (drop (i + 1) qs)) ∙ sym (ap (λ ys. finish string_cells at (texts_of ys)) e) ∙ before

pub procedures_counted : (qs : List Procedure) (i at end : ℕ) → length qs ≤ i → finish string_cells at (texts_of (drop i qs)) ≡ end → at ≡ end
procedures_counted qs i at end le before = sym (ap (λ ys. finish string_cells at (texts_of ys)) (drop_of_length-le qs le)) ∙ before

---- Numbers

pub first_more : (qs : List Procedure) (i : ℕ) (q : Procedure) (at next : ℕ) (old new all : List ℕ) → i < length qs → q ≡ get_or qs i q → new ≡ old ++ at ∷ [] → next ≡ at + length q.texts → old ++ first_strings at (drop i qs) ≡ all → new ++ first_strings next (drop (i + 1) qs) ≡ all
first_more qs i q at next old new all lt is more there before =
    let e : drop i qs ≡ q ∷ drop (i + 1) qs = drop_more qs i q lt ∙ ap (λ y. y ∷ drop (i + 1) qs) (sym is) in
    ap₂ (λ l n. l ++ first_strings n (drop (i + 1) qs)) more there
    ∙ append_assoc old (at ∷ []) (first_strings (at + length q.texts) (drop (i + 1) qs))
    ∙ sym (ap (λ ys. old ++ first_strings at ys) e)
    ∙ before

pub first_end : (qs : List Procedure) (i at : ℕ) (list all : List ℕ) → length qs ≤ i → list ++ first_strings at (drop i qs) ≡ all → list ≡ all
first_end qs i at list all le before = sym (append_none list) ∙ sym (ap (λ ys. list ++ first_strings at ys) (drop_of_length-le qs le)) ∙ before
  where
    append_none : (xs : List ℕ) → xs ++ [] ≡ xs
    append_none [] = refl
    append_none (x ∷ xs) = ap (λ ys. x ∷ ys) (append_none xs)

-- a procedure's strings stand behind those of the procedures before it
pub first_is : (at : ℕ) (qs : List Procedure) (f : ℕ) → f < length qs → get_or (first_strings at qs) f 0 ≡ at + length (texts_of (take f qs))
first_is at [] f lt = absurd (omega (arith, lt))
first_is at (q ∷ qs) zero lt = omega arith
first_is at (q ∷ qs) (suc f) lt =
    let a = length-append q.texts (texts_of (take f qs)) in
    let b = first_is (at + length q.texts) qs f (omega (arith, lt)) in
    omega (arith, a, b)
