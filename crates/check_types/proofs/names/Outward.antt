-- What a name stands for, by a walk from the innermost scope.
use Rattle.std.proofs.Common.{◌≡◌, ℕ, ◌+◌, ◌<◌, ◌≤◌, arith, List, [], ◌∷◌, ◌++◌, length, take, get_or, map, Option, Some, None, refl, sym, ap, ◌∙◌}
use Rattle.std.proofs.lemmas.List.{map_more}
use Rattle.ob_judge.specs.Scopes.{Entry, or_else, look_up}
use Rattle.check_types.specs.declared.names.levels.Level.{Level}

or_else_none : {A : Type 0} (a : Option A) → a ≡ or_else a None
or_else_none (Some a) = refl
or_else_none None = refl

or_else_assoc : {A : Type 0} (a b c : Option A) → or_else (or_else a b) c ≡ or_else a (or_else b c)
or_else_assoc (Some a) b c = refl
or_else_assoc None b c = refl

-- the last scope is the innermost
pub look_up-append : (name : List ℕ) (ls : List (List ℕ → Option Entry)) (l : List ℕ → Option Entry) → look_up name (ls ++ l ∷ []) ≡ or_else (l name) (look_up name ls)
look_up-append name [] l = or_else_none (l name)
look_up-append name (k ∷ ls) l =
    ap (λ o. or_else o (k name)) (look_up-append name ls l) ∙ or_else_assoc (l name) (look_up name ls) (k name)

is_zero : {n : ℕ} → n ≤ 0 → n ≡ 0
is_zero e = omega arith

-- none is left
pub none_left : (names : Level → List ℕ → Option Entry) (name : List ℕ) (levels : List Level) (i : ℕ) → i ≤ 0 → look_up name (map names (take i levels)) ≡ None
none_left names name levels i e = ap (λ n. look_up name (map names (take n levels))) (is_zero e)

module _ (names : Level → List ℕ → Option Entry) (name : List ℕ) (levels : List Level) (i j : ℕ) (l : Level) where
  -- the scopes up to one, from that one outward
  inward : i ≡ j + 1 → j < length levels → l ≡ get_or levels j l →
      look_up name (map names (take i levels)) ≡ or_else (names l name) (look_up name (map names (take j levels)))
  inward e lt is =
      ap (λ n. look_up name (map names (take n levels))) e
      ∙ ap (look_up name) (map_more names levels j l lt)
      ∙ look_up-append name (map names (take j levels)) (names (get_or levels j l))
      ∙ ap (λ k. or_else (names k name) (look_up name (map names (take j levels)))) (sym is)

  -- the name stands in this scope
  pub found_here : (d : Entry) → i ≡ j + 1 → j < length levels → l ≡ get_or levels j l → Some d ≡ names l name →
      look_up name (map names (take i levels)) ≡ Some d
  found_here d e lt is has = inward e lt is ∙ ap (λ o. or_else o (look_up name (map names (take j levels)))) (sym has)

  -- it doesn't
  pub not_here : i ≡ j + 1 → j < length levels → l ≡ get_or levels j l → None ≡ names l name →
      look_up name (map names (take i levels)) ≡ look_up name (map names (take j levels))
  not_here e lt is has = inward e lt is ∙ ap (λ o. or_else o (look_up name (map names (take j levels)))) (sym has)
