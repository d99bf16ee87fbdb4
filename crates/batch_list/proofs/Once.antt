-- A list has its lines, or a first bad line: one of both, and that once.
use Rattle.std.proofs.Common.{◌≡◌, ◌≢◌, ℕ, suc, ◌+◌, List, [], ◌∷◌, ◌++◌, length, ◌⊎◌, inl, inr, refl, sym, ap, ap₂, ◌∙◌, subst, arith}
use Rattle.std.specs.List.{AllZip}
use Rattle.batch_list.specs.Form.{ListLine, IsRowOf, AllForm, AreLines, IsFirstBad}

-- a row is one line
row_once : (row : List ℕ) (a b : ListLine) → IsRowOf row a → IsRowOf row b → a ≡ b
row_once row a b h k =
    let same : ((48 + a.sender) ∷ []) ∷ a.names ≡ ((48 + b.sender) ∷ []) ∷ b.names = sym h.words ∙ k.words in
    let digits : 48 + a.sender ≡ 48 + b.sender = cc in
    let names : a.names ≡ b.names = cc in
    let senders : a.sender ≡ b.sender = omega (arith, digits) in
    λ i. record { sender = senders i; names = names i }

rows_once : (rows : List (List ℕ)) (a b : List ListLine) → AllZip IsRowOf rows a → AllZip IsRowOf rows b → a ≡ b
rows_once [] [] [] h k = refl
rows_once [] [] (y ∷ ys) h k = absurd k
rows_once [] (x ∷ xs) b h k = absurd h
rows_once (r ∷ rs) [] b h k = absurd h
rows_once (r ∷ rs) (x ∷ xs) [] h k = absurd k
rows_once (r ∷ rs) (x ∷ xs) (y ∷ ys) h k = ap₂ (λ z zs. z ∷ zs) (row_once r x y h.0 k.0) (rows_once rs xs ys h.1 k.1)

-- what has a last row has some
some_last : (rows more : List (List ℕ)) (row : List ℕ) → rows ++ row ∷ more ≡ [] → ⊥
some_last [] more row e = cc
some_last (r ∷ rs) more row e = cc

-- what comes before the last row is one list
before_once : (xs ys : List (List ℕ)) → xs ++ [] ∷ [] ≡ ys ++ [] ∷ [] → xs ≡ ys
before_once [] [] e = refl
before_once [] (y ∷ ys) e = let none : ys ++ [] ∷ [] ≡ [] = cc in absurd (some_last ys [] [] none)
before_once (x ∷ xs) [] e = let none : xs ++ [] ∷ [] ≡ [] = cc in absurd (some_last xs [] [] none)
before_once (x ∷ xs) (y ∷ ys) e =
    let same : x ≡ y = cc in
    let rest : xs ++ [] ∷ [] ≡ ys ++ [] ∷ [] = cc in
    ap₂ (λ z zs. z ∷ zs) same (before_once xs ys rest)

pub lines_once : (text : List ℕ) (a b : List ListLine) → AreLines text a → AreLines text b → a ≡ b
lines_once text a b h k = rows_once h.good a b h.each (subst (λ rows. AllZip IsRowOf rows b) (before_once k.good h.good (sym k.rows ∙ h.rows)) k.each)

-- a row that ends the lines: it has no end, or isn't of the form
abbrev IsWrong : List ℕ → List (List ℕ) → Type 0
IsWrong bad more = ((more ≡ []) × (bad ≢ [])) ⊎ ((more ≢ []) × ((line : ListLine) → ¬ IsRowOf bad line))

-- a row that is a line and isn't the last one isn't wrong
never_wrong : (bad : List ℕ) (more : List (List ℕ)) (line : ListLine) → IsWrong bad more → IsRowOf bad line → (more ≡ [] → ⊥) → ⊥
never_wrong bad more line (inl last) is some = some last.0
never_wrong bad more line (inr other) is some = other.1 line is

-- two first wrong rows stand at one place
same_place : (good : List (List ℕ)) (bad : List ℕ) (more good' : List (List ℕ)) (bad' : List ℕ) (more' : List (List ℕ)) → good ++ bad ∷ more ≡ good' ++ bad' ∷ more'
    → AllForm good → AllForm good' → IsWrong bad more → IsWrong bad' more' → length good ≡ length good'
same_place [] bad more [] bad' more' e h k w v = refl
same_place [] bad more (g ∷ gs) bad' more' e h k w v =
    let same : g ≡ bad = cc in
    let rest : gs ++ bad' ∷ more' ≡ more = cc in
    absurd (never_wrong bad more k.0.0 w (subst (λ row. IsRowOf row k.0.0) same k.0.1) (λ none. some_last gs more' bad' (rest ∙ none)))
same_place (g ∷ gs) bad more [] bad' more' e h k w v =
    let same : g ≡ bad' = cc in
    let rest : gs ++ bad ∷ more ≡ more' = cc in
    absurd (never_wrong bad' more' h.0.0 v (subst (λ row. IsRowOf row h.0.0) same h.0.1) (λ none. some_last gs more bad (rest ∙ none)))
same_place (g ∷ gs) bad more (g' ∷ gs') bad' more' e h k w v =
    let rest : gs ++ bad ∷ more ≡ gs' ++ bad' ∷ more' = cc in
    ap suc (same_place gs bad more gs' bad' more' rest h.1 k.1 w v)

pub bad_once : (text : List ℕ) (m n : ℕ) → IsFirstBad text m → IsFirstBad text n → m ≡ n
bad_once text m n h k =
    let same = same_place h.good h.bad h.more k.good k.bad k.more (sym h.rows ∙ k.rows) h.before k.before h.wrong k.wrong in
    let first = h.count in
    let second = k.count in
    omega (arith, same, first, second)

-- where each row but the last is a line, and the last is empty, none is wrong
none_wrong : (good : List (List ℕ)) (lines : List ListLine) (front : List (List ℕ)) (bad : List ℕ) (more : List (List ℕ)) → good ++ [] ∷ [] ≡ front ++ bad ∷ more → AllZip IsRowOf good lines → IsWrong bad more → ⊥
none_wrong [] lines [] bad more e all (inl last) = last.1 (let empty : bad ≡ [] = cc in empty)
none_wrong [] lines [] bad more e all (inr other) = other.0 (let none : more ≡ [] = cc in none)
none_wrong [] lines (f ∷ fs) bad more e all w = some_last fs more bad (let none : fs ++ bad ∷ more ≡ [] = cc in none)
none_wrong (g ∷ gs) [] front bad more e all w = absurd all
none_wrong (g ∷ gs) (l ∷ ls) [] bad more e all w =
    let same : g ≡ bad = cc in
    let rest : gs ++ [] ∷ [] ≡ more = cc in
    never_wrong bad more l w (subst (λ row. IsRowOf row l) same all.0) (λ none. some_last gs [] [] (rest ∙ none))
none_wrong (g ∷ gs) (l ∷ ls) (f ∷ fs) bad more e all w = none_wrong gs ls fs bad more (let rest : gs ++ [] ∷ [] ≡ fs ++ bad ∷ more = cc in rest) all.1 w

pub never_both : (text : List ℕ) (lines : List ListLine) (n : ℕ) → AreLines text lines → IsFirstBad text n → ⊥
never_both text lines n h k = none_wrong h.good lines k.good k.bad k.more (sym h.rows ∙ k.rows) h.each k.wrong
