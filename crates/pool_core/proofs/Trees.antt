-- The tree of parents: each trace is a trace without a parent, or a child of one trace.
use Rattle.std.proofs.Common.{◌≡◌, ℕ, zero, suc, ◌+◌, ◌<◌, ◌≤◌, ◌⊎◌, List, [], ◌∷◌, length, get_or, take, sym, refl, ap, ◌∙◌, inl, inr, ⊎_elim, arith, Bool, true, false, cond, eqb, ne_eqb}
use Rattle.std.specs.Prelude.{Option, Some, None}
use mathlib.Core.Logic.{dite}
use native.Mathlib.Decide.{ℕ_discrete, dec_lt}
use mathlib.Core.Option.{some, some-injective, some-ne-none}
use lib.ListN.{get_elem?}
use Rattle.pool_core.specs.Sums.{hit, times}
use Rattle.pool_core.specs.Tree.{is_root, is_child, put_if, picked, roots, children, IsTree}
use Rattle.pool_core.proofs.Sums.{hit_same, hit_else, hit-le, below, below_add, below_le, only, below-only-le, only_same, at_index, total-take-le, total-take-suc, term_le}

abbrev flag : Bool → ℕ
flag true = 1
flag false = 0

times_put : (b : Bool) (x n : ℕ) (xs : List ℕ) → times x (put_if b n xs) ≡ times x xs + cond b (hit x n) 0
times_put true x n xs = omega arith
times_put false x n xs = omega arith

length_put : (b : Bool) (n : ℕ) (xs : List ℕ) → length (put_if b n xs) ≡ length xs + flag b
length_put true n xs = omega arith
length_put false n xs = omega arith

module _ (test : Option ℕ → Bool) where
  pub picked_below : (ps : List (Option ℕ)) (n x : ℕ) → x < n → times x (picked test n ps) ≡ 0
  picked_below [] n x h = refl
  picked_below (p ∷ ps) n x h = omega (arith, times_put (test p) x n (picked test (suc n) ps), picked_below ps (suc n) x (omega arith), none (test p))
    where
      none : (b : Bool) → cond b (hit x n) 0 ≡ 0
      none true = hit_else x n (λ same. omega arith)
      none false = refl

  picked_at : (ps : List (Option ℕ)) (n x j : ℕ) (p : Option ℕ) → x ≡ n + j → get_elem? ps j ≡ some p → times x (picked test n ps) ≡ flag (test p)
  picked_at [] n x j p e at = absurd (some-ne-none p (sym at))
  picked_at (q ∷ ps) n x zero p e at = omega (arith, times_put (test q) x n (picked test (suc n) ps), picked_below ps (suc n) x (omega arith), here (test q), ap (λ (o : Option ℕ). flag (test o)) (some-injective q p at))
    where
      here : (b : Bool) → cond b (hit x n) 0 ≡ flag b
      here true = hit_same x n (omega arith)
      here false = refl
  picked_at (q ∷ ps) n x (suc j) p e at = omega (arith, times_put (test q) x n (picked test (suc n) ps), picked_at ps (suc n) x j p (omega arith) at, none (test q))
    where
      none : (b : Bool) → cond b (hit x n) 0 ≡ 0
      none true = hit_else x n (λ same. omega arith)
      none false = refl

  picked_past : (ps : List (Option ℕ)) (n x : ℕ) → length ps + n ≤ x → times x (picked test n ps) ≡ 0
  picked_past [] n x h = refl
  picked_past (p ∷ ps) n x h = omega (arith, times_put (test p) x n (picked test (suc n) ps), picked_past ps (suc n) x (omega arith), none (test p))
    where
      none : (b : Bool) → cond b (hit x n) 0 ≡ 0
      none true = hit_else x n (λ same. omega arith)
      none false = refl

child_flag : (t p : ℕ) → flag (is_child t (Some p)) ≡ hit t p
unfolding hit
child_flag t p = same (eqb p t)
  where
    same : (b : Bool) → flag b ≡ cond b 1 0
    same true = refl
    same false = refl

module _ (P : List (Option ℕ)) where
  abbrev pub IsRoot : ℕ → Type 0
  IsRoot x = (times x (roots P) ≤ 1) × ((t : ℕ) → times x (children P t) ≡ 0)

  abbrev pub IsChild : ℕ → ℕ → Type 0
  IsChild x p = (times x (roots P) ≡ 0) × ((t : ℕ) → times x (children P t) ≡ hit t p) × (get_elem? P x ≡ some (Some p))

  place_at : (x : ℕ) (o : Option ℕ) → get_elem? P x ≡ some o → IsTree P → IsRoot x ⊎ ((p : ℕ) × (p < x) × IsChild x p)
  unfolding roots children
  place_at x None at tree = inl (omega (arith, picked_at is_root P 0 x x None (omega arith) at), λ t. picked_at (is_child t) P 0 x x None (omega arith) at)
  place_at x (Some p) at tree = inr (
    p,
    tree x p at,
    (picked_at is_root P 0 x x (Some p) (omega arith) at, (λ t. picked_at (is_child t) P 0 x x (Some p) (omega arith) at ∙ child_flag t p), at),
  )

  pub root_in : (x : ℕ) → get_elem? P x ≡ some None → times x (roots P) ≡ 1
  unfolding roots
  root_in x at = picked_at is_root P 0 x x None (omega arith) at

  pub child_in : (x p : ℕ) → get_elem? P x ≡ some (Some p) → (t : ℕ) → times x (children P t) ≡ hit t p
  unfolding children
  child_in x p at t = picked_at (is_child t) P 0 x x (Some p) (omega arith) at ∙ child_flag t p

  pub outside : (x : ℕ) → length P ≤ x → (times x (roots P) ≡ 0) × ((t : ℕ) → times x (children P t) ≡ 0)
  unfolding roots children
  outside x h = (picked_past is_root P 0 x (omega arith), λ t. picked_past (is_child t) P 0 x (omega arith))

  -- each number is a trace without a parent, or no trace, or the child of one lower trace
  pub place_of : (x : ℕ) → IsTree P → IsRoot x ⊎ ((p : ℕ) × (p < x) × IsChild x p)
  place_of x tree = dite (dec_lt x (length P)) (λ h. place_at x (get_or P x None) (at_index P x None h) tree) (λ h. let o = outside x (omega arith) in inl (omega arith, o.1))

  -- the next child of t is in no part before it, and its one parent is t
  pub next_child : (t k c : ℕ) → IsTree P → get_elem? (children P t) k ≡ some c → (times c (take k (children P t)) ≡ 0) × (times c (roots P) ≡ 0) × ((u : ℕ) → times c (children P u) ≡ hit u t)
  next_child t k c tree at =
      let more = total-take-suc (hit c) k (children P t) c at in
      let here = hit_same c c refl in
      let less = total-take-le (hit c) (suc k) (children P t) in
      ⊎_elim
      (λ root. absurd (omega (arith, root.1 t)))
      (λ ch. let p : ℕ = ch.0 in let is : t ≡ p = (dite (ℕ_discrete t p) (λ e. e) (λ n. absurd (omega (arith, hit_else t p n, ch.2.1 t)))) in (
        omega (arith, ch.2.1 t, hit-le t p),
        ch.2.0,
        (λ u. ch.2.1 u ∙ ap (hit u) (sym is)),
      ))
      (place_of c tree)

  -- a child is a trace, whose parent is t
  pub child_of : (t k c : ℕ) → IsTree P → get_elem? (children P t) k ≡ some c → (c < length P) × (get_elem? P c ≡ some (Some t))
  child_of t k c tree at =
      let here = term_le (hit c) (children P t) k c at in
      let one = hit_same c c refl in
      dite (dec_lt c (length P))
      (λ lt. (lt, by_parent (get_or P c None) (at_index P c None lt) here))
      (λ ge. absurd (omega (arith, (outside c (omega arith)).1 t)))
    where
      by_parent : (o : Option ℕ) → get_elem? P c ≡ some o → hit c c ≤ times c (children P t) → get_elem? P c ≡ some (Some t)
      by_parent None e h = ⊎_elim (λ root. absurd (omega (arith, root.1 t, hit_same c c refl))) (λ ch. absurd (differ (some-injective None (Some ch.0) (sym e ∙ ch.2.2)))) (place_of c tree)
        where
          differ : {p : ℕ} → None ≡ Some p → ⊥
          differ e = cc
      by_parent (Some p) e h = let same : t ≡ p = (dite (ℕ_discrete t p) (λ z. z) (λ n. absurd (omega (arith, hit_else t p n, child_in c p e t, hit_same c c refl)))) in e ∙ ap (λ (q : ℕ). some (Some q)) (sym same)

spread_from : (ps : List (Option ℕ)) (n m : ℕ) → length (picked is_root n ps) + below (λ t. length (picked (is_child t) n ps)) m ≤ length ps
spread_from [] n m = omega (arith, zeros m)
  where
    zeros : (k : ℕ) → below (λ t. 0) k ≡ 0
    zeros zero = refl
    zeros (suc k) = omega (arith, zeros k)
spread_from (None ∷ ps) n m = omega (arith, spread_from ps (suc n) m)
spread_from (Some p ∷ ps) n m = omega (arith, spread_from ps (suc n) m, below_le (λ t. length (picked (is_child t) n (Some p ∷ ps))) (λ t. only 1 p t + length (picked (is_child t) (suc n) ps)) m (λ t. omega (arith, length_put (is_child t (Some p)) n (picked (is_child t) (suc n) ps), flags (eqb p t) (eqb t p) t)), below_add (only 1 p) (λ t. length (picked (is_child t) (suc n) ps)) m, below-only-le 1 p m)
  where
    flag-le : (b : Bool) → flag b ≤ 1
    flag-le true = omega arith
    flag-le false = omega arith

    flags : (b c : Bool) → (t : ℕ) → flag (eqb p t) ≤ only 1 p t
    flags b c t = dite (ℕ_discrete t p) (λ e. omega (arith, only_same 1 p t e, flag-le (eqb p t))) (λ ne. omega (arith, ap flag (ne_eqb p t (λ e. ne (sym e)))))

-- no more traces without a parent and children than traces
pub spread_le : (P : List (Option ℕ)) (m : ℕ) → length (roots P) + below (λ t. length (children P t)) m ≤ length P
unfolding roots children
spread_le P m = spread_from P 0 m

pub children_le : (P : List (Option ℕ)) (t : ℕ) → length (children P t) ≤ length P
children_le P t = omega (arith, spread_le P (suc t))
