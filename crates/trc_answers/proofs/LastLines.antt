-- A text with one byte more.
use Rattle.std.proofs.Common.{◌≡◌, ◌≤◌, ℕ, suc, ◌+◌, List, [], ◌∷◌, ◌++◌, length, Bool, true, false, nat_eq, ◌<◌, take, get_or, refl, sym, ap, ◌∙◌, arith, length-append}
use Rattle.std.proofs.Math.Seq.{take-suc}
use Rattle.std.proofs.lemmas.List.{length-take}
use Rattle.std.proofs.lemmas.Bool.{eqb-true}
use Rattle.std.specs.Prelude.{if◌then◌else◌}
use Rattle.ob_judge.specs.Scopes.{line_ends}
use Rattle.trc_answers.specs.Places.{last_line}

pub ends_push : (w : List ℕ) (b : ℕ) → line_ends (w ++ b ∷ []) ≡ line_ends w + line_ends (b ∷ [])
ends_push [] b = omega arith
ends_push (c ∷ w) b = by (nat_eq c 10) (ends_push w b)
  where
    by : (t : Bool) → line_ends (w ++ b ∷ []) ≡ line_ends w + line_ends (b ∷ [])
        → (if t then suc (line_ends (w ++ b ∷ [])) else line_ends (w ++ b ∷ [])) ≡ (if t then suc (line_ends w) else line_ends w) + line_ends (b ∷ [])
    by true h = omega (arith, h)
    by false h = h

no_end : (b : ℕ) → nat_eq b 10 ≡ false → line_ends (b ∷ []) ≡ 0
no_end b e = ap (λ (t : Bool). if t then suc 0 else 0) e

-- behind the end of a line
pub last_push_end : (w : List ℕ) → last_line (w ++ 10 ∷ []) ≡ []
last_push_end [] = refl
last_push_end (c ∷ w) =
    let some : line_ends ((c ∷ w) ++ 10 ∷ []) ≡ line_ends (c ∷ w) + 1 = ends_push (c ∷ w) 10 in
    cut (line_ends ((c ∷ w) ++ 10 ∷ [])) ((c ∷ w) ++ 10 ∷ []) (omega (arith, some)) (last_push_end w)
  where
    cut : (n : ℕ) (u : List ℕ) → 0 < n → last_line (w ++ 10 ∷ []) ≡ [] → (if nat_eq n 0 then u else last_line (w ++ 10 ∷ [])) ≡ []
    cut n u p h = by (nat_eq n 0) refl
      where
        by : (t : Bool) → nat_eq n 0 ≡ t → (if t then u else last_line (w ++ 10 ∷ [])) ≡ []
        by true e = absurd (let z = eqb-true n 0 e in omega (arith, p, z))
        by false e = h

-- behind another byte
pub last_push : (w : List ℕ) (b : ℕ) → nat_eq b 10 ≡ false → last_line (w ++ b ∷ []) ≡ last_line w ++ b ∷ []
last_push [] b e = ap (λ (n : ℕ). if nat_eq n 0 then b ∷ [] else []) (no_end b e)
last_push (c ∷ w) b e = ap (λ (n : ℕ). if nat_eq n 0 then (c ∷ w) ++ b ∷ [] else last_line (w ++ b ∷ [])) same ∙ by (nat_eq (line_ends (c ∷ w)) 0) (last_push w b e)
  where
    same : line_ends ((c ∷ w) ++ b ∷ []) ≡ line_ends (c ∷ w)
    same = (let h = ends_push (c ∷ w) b in let k : line_ends (b ∷ []) ≡ 0 = no_end b e in omega (arith, h, k))

    by : (t : Bool) → last_line (w ++ b ∷ []) ≡ last_line w ++ b ∷ []
        → (if t then (c ∷ w) ++ b ∷ [] else last_line (w ++ b ∷ [])) ≡ (if t then c ∷ w else last_line w) ++ b ∷ []
    by true h = refl
    by false h = h

-- there are no more line ends, and no more bytes behind the last, than bytes
pub ends_few : (w : List ℕ) → line_ends w ≤ length w
ends_few [] = omega arith
ends_few (c ∷ w) = by (nat_eq c 10) (ends_few w)
  where
    by : (t : Bool) → line_ends w ≤ length w → (if t then suc (line_ends w) else line_ends w) ≤ suc (length w)
    by true h = omega (arith, h)
    by false h = omega (arith, h)

pub last_short : (w : List ℕ) → length (last_line w) ≤ length w
last_short [] = omega arith
last_short (c ∷ w) = by (nat_eq (line_ends (c ∷ w)) 0) (last_short w)
  where
    by : (t : Bool) → length (last_line w) ≤ length w → length (if t then c ∷ w else last_line w) ≤ suc (length w)
    by true h = omega arith
    by false h = omega (arith, h)

-- ---- the first bytes of a text, and one more

is_other : (b : ℕ) → (b ≡ 10 → ⊥) → nat_eq b 10 ≡ false
is_other b ne = by (nat_eq b 10) refl
  where
    by : (t : Bool) → nat_eq b 10 ≡ t → t ≡ false
    by true e = absurd (ne (eqb-true b 10 e))
    by false e = refl

one_more : (w : List ℕ) (i : ℕ) → i < length w → take (i + 1) w ≡ take i w ++ get_or w i 0 ∷ []
one_more w i p = (let e : i + 1 ≡ suc i = omega arith in ap (λ k. take k w) e ∙ take-suc w i 0 p)

pub lines_few : (w : List ℕ) (i : ℕ) → line_ends (take i w) ≤ i
lines_few w i = (let a = ends_few (take i w) in let b = length-take i w in omega (arith, a, b))

pub columns_few : (w : List ℕ) (i : ℕ) → length (last_line (take i w)) ≤ i
columns_few w i = (let a = last_short (take i w) in let b = length-take i w in omega (arith, a, b))

pub behind_end : (w : List ℕ) (i line : ℕ) → i < length w → get_or w i 0 ≡ 10 → line ≡ suc (line_ends (take i w))
    → (line + 1 ≡ suc (line_ends (take (i + 1) w))) × (1 ≡ suc (length (last_line (take (i + 1) w))))
behind_end w i line p e h =
    let more : take (i + 1) w ≡ take i w ++ 10 ∷ [] = one_more w i p ∙ ap (λ b. take i w ++ b ∷ []) e in
    let ends : line_ends (take (i + 1) w) ≡ line_ends (take i w) + 1 = ap line_ends more ∙ ends_push (take i w) 10 in
    let last : last_line (take (i + 1) w) ≡ [] = ap last_line more ∙ last_push_end (take i w) in
    ((omega (arith, ends, h)), ap (λ u. suc (length u)) (sym last))

pub behind_other : (w : List ℕ) (i line column : ℕ) → i < length w → (get_or w i 0 ≡ 10 → ⊥)
    → line ≡ suc (line_ends (take i w)) → column ≡ suc (length (last_line (take i w)))
    → (line ≡ suc (line_ends (take (i + 1) w))) × (column + 1 ≡ suc (length (last_line (take (i + 1) w))))
behind_other w i line column p ne h k =
    let e = is_other (get_or w i 0) ne in
    let b = get_or w i 0 in
    let ends : line_ends (take (i + 1) w) ≡ line_ends (take i w) + line_ends (b ∷ []) = ap line_ends (one_more w i p) ∙ ends_push (take i w) b in
    let none : line_ends (b ∷ []) ≡ 0 = no_end b e in
    let last : last_line (take (i + 1) w) ≡ last_line (take i w) ++ b ∷ [] = ap last_line (one_more w i p) ∙ last_push (take i w) b e in
    let size : length (last_line (take (i + 1) w)) ≡ length (last_line (take i w)) + 1 = ap length last ∙ length-append (last_line (take i w)) (b ∷ []) in
    ((omega (arith, ends, none, h)), (omega (arith, size, k)))
