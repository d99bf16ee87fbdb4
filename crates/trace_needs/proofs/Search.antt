-- The first and the last number of a row are what a search finds.
use Rattle.std.proofs.Common.{◌≡◌, ℕ, zero, suc, ◌+◌, ◌<◌, ◌≤◌, Bool, true, false, cond, List, [], ◌∷◌, ◌++◌, length, take, drop, replicate, Option, Some, refl, sym, ap, ◌∙◌, arith}
use Rattle.std.specs.Prelude.{◌==◌, nat_lt, nat_le, slice_index}
use Rattle.std.proofs.lemmas.Bool.Decides.{nat_tests}
use Rattle.block_runs.specs.Live.{has}
use Rattle.block_runs.specs.Valid.{times}
use Rattle.trace_needs.specs.Needs.{Position, first_need, latest_mention}
use Rattle.trace_needs.specs.Asked.{first_from, last_below, IsRising}
use Rattle.trace_needs.proofs.Joining.{repeated}
use Rattle.global_live.proofs.Tables.{not_in as lacks}

pub le_test : (a b : ℕ) → a ≤ b → nat_le a b ≡ true
le_test a b h = grind (arith, nat_tests)

pub not_le : (a b : ℕ) → b < a → nat_le a b ≡ false
not_le a b h = grind (arith, nat_tests)

pub lt_test : (a b : ℕ) → a < b → nat_lt a b ≡ true
lt_test a b h = grind (arith, nat_tests)

pub not_lt : (a b : ℕ) → b ≤ a → nat_lt a b ≡ false
not_lt a b h = grind (arith, nat_tests)

---- What rows are

has_of_times : (xs : List ℕ) (v n : ℕ) → times xs v ≡ suc n → has xs v ≡ true
has_of_times [] v n e = absurd (omega (arith, e))
has_of_times (x ∷ xs) v n e = at_test (x == v) e (has_of_times xs v n)
  where
    at_test : (b : Bool) → cond b (suc (times xs v)) (times xs v) ≡ suc n → (times xs v ≡ suc n → has xs v ≡ true) → cond b true (has xs v) ≡ true
    at_test true e on = refl
    at_test false e on = on e

module _ (v : ℕ) where
  -- all of a row's numbers are behind the limit
  at_once : (ps : List Position) (at p : ℕ) → at ≤ p → first_from at (repeated (λ x. x.needs) v p ps) ≡ first_need v p ps
  at_once [] at p le = refl
  at_once (x ∷ ps) at p le = at_times (times x.needs v) refl (at_once ps at (suc p) (omega (arith, le)))
    where
      at_times : (n : ℕ) → times x.needs v ≡ n → first_from at (repeated (λ x. x.needs) v (suc p) ps) ≡ first_need v (suc p) ps → first_from at (replicate n p ++ repeated (λ x. x.needs) v (suc p) ps) ≡ cond (has x.needs v) (Some p) (first_need v (suc p) ps)
      at_times zero e on = on ∙ ap (λ b. cond b (Some p) (first_need v (suc p) ps)) (sym (lacks x.needs v e))
      at_times (suc n) e on = ap (λ b. cond b (Some p) (first_from at (replicate n p ++ repeated (λ x. x.needs) v (suc p) ps))) (le_test at p le) ∙ ap (λ b. cond b (Some p) (first_need v (suc p) ps)) (sym (has_of_times x.needs v n e))

  skips : (n p at : ℕ) (rest : List ℕ) → p < at → first_from at (replicate n p ++ rest) ≡ first_from at rest
  skips zero p at rest lt = refl
  skips (suc n) p at rest lt = ap (λ b. cond b (Some p) (first_from at (replicate n p ++ rest))) (not_le at p lt) ∙ skips n p at rest lt

  pub next_told : (ps : List Position) (d p at : ℕ) → at ≡ p + d → first_from at (repeated (λ x. x.needs) v p ps) ≡ first_need v at (drop d ps)
  next_told [] zero p at e = refl
  next_told [] (suc d) p at e = refl
  next_told (x ∷ ps) zero p at e = let q : at ≡ p = omega (arith, e) in at_once (x ∷ ps) at p (omega (arith, e)) ∙ ap (λ i. first_need v i (x ∷ ps)) (sym q)
  next_told (x ∷ ps) (suc d) p at e = skips (times x.needs v) p at (repeated (λ x. x.needs) v (suc p) ps) (omega (arith, e)) ∙ next_told ps d (suc p) at (omega (arith, e))

  none_below : (n p before : ℕ) (last : Option ℕ) (rest : List ℕ) → before ≤ p → last_below before last (replicate n p ++ rest) ≡ last_below before last rest
  none_below zero p before last rest le = refl
  none_below (suc n) p before last rest le = ap (λ b. last_below before (cond b (Some p) last) (replicate n p ++ rest)) (not_lt p before le) ∙ none_below n p before last rest le

  all_behind : (ps : List Position) (p before : ℕ) (last : Option ℕ) → before ≤ p → last_below before last (repeated (λ x. x.mentions) v p ps) ≡ last
  all_behind [] p before last le = refl
  all_behind (x ∷ ps) p before last le = none_below (times x.mentions v) p before last (repeated (λ x. x.mentions) v (suc p) ps) le ∙ all_behind ps (suc p) before last (omega (arith, le))

  same_last : (n p before : ℕ) (rest : List ℕ) → p < before → last_below before (Some p) (replicate n p ++ rest) ≡ last_below before (Some p) rest
  same_last zero p before rest lt = refl
  same_last (suc n) p before rest lt = ap (λ b. last_below before (cond b (Some p) (Some p)) (replicate n p ++ rest)) (lt_test p before lt) ∙ same_last n p before rest lt

  pub last_told : (ps : List Position) (d p before : ℕ) (last : Option ℕ) → before ≡ p + d → last_below before last (repeated (λ x. x.mentions) v p ps) ≡ latest_mention v p last (take d ps)
  last_told [] zero p before last e = refl
  last_told [] (suc d) p before last e = refl
  last_told (x ∷ ps) zero p before last e = all_behind (x ∷ ps) p before last (omega (arith, e))
  last_told (x ∷ ps) (suc d) p before last e = at_times (λ l. last_told ps d (suc p) before l (omega (arith, e))) (times x.mentions v) refl
    where
      at_times : ((l : Option ℕ) → last_below before l (repeated (λ x. x.mentions) v (suc p) ps) ≡ latest_mention v (suc p) l (take d ps)) → (n : ℕ) → times x.mentions v ≡ n → last_below before last (replicate n p ++ repeated (λ x. x.mentions) v (suc p) ps) ≡ latest_mention v (suc p) (cond (has x.mentions v) (Some p) last) (take d ps)
      at_times on zero q = on last ∙ ap (λ b. latest_mention v (suc p) (cond b (Some p) last) (take d ps)) (sym (lacks x.mentions v q))
      at_times on (suc n) q =
          ap (λ b. last_below before (cond b (Some p) last) (replicate n p ++ repeated (λ x. x.mentions) v (suc p) ps)) (lt_test p before (omega (arith, e)))
          ∙ same_last n p before (repeated (λ x. x.mentions) v (suc p) ps) (omega (arith, e))
          ∙ on (Some p)
          ∙ ap (λ b. latest_mention v (suc p) (cond b (Some p) last) (take d ps)) (sym (has_of_times x.mentions v n q))

---- Rows rise

-- the numbers rise from a least one on
abbrev pub From : ℕ → List ℕ → Type 0
From p [] = Unit {0}
From p (x ∷ xs) = (p ≤ x) × From x xs

weaker : (q p : ℕ) (xs : List ℕ) → q ≤ p → From p xs → From q xs
weaker q p [] le h = tt
weaker q p (x ∷ xs) le h = (let a = h.0 in omega (arith, le, a), h.1)

from_replicate : (n p : ℕ) (xs : List ℕ) → From p xs → From p (replicate n p ++ xs)
from_replicate zero p xs h = h
from_replicate (suc n) p xs h = (omega arith, from_replicate n p xs h)

pub from_repeated : (part : Position → List ℕ) (v p : ℕ) (ps : List Position) → From p (repeated part v p ps)
from_repeated part v p [] = tt
from_repeated part v p (x ∷ ps) = from_replicate (times (part x) v) p (repeated part v (suc p) ps) (weaker p (suc p) (repeated part v (suc p) ps) (omega arith) (from_repeated part v (suc p) ps))

least : (p : ℕ) (xs : List ℕ) (i : ℕ) → From p xs → i < length xs → p ≤ slice_index xs i
least p [] i h lt = absurd (omega (arith, lt))
least p (x ∷ xs) zero h lt = h.0
least p (x ∷ xs) (suc i) h lt = let a = h.0 in let b = least x xs i h.1 (omega (arith, lt)) in omega (arith, a, b)

pub rises : (p : ℕ) (xs : List ℕ) → From p xs → IsRising xs
rises p [] h i j le lt = absurd (omega (arith, lt))
rises p (x ∷ xs) h zero zero le lt = omega arith
rises p (x ∷ xs) h zero (suc j) le lt = least x xs j h.1 (omega (arith, lt))
rises p (x ∷ xs) h (suc i) zero le lt = absurd (omega (arith, le))
rises p (x ∷ xs) h (suc i) (suc j) le lt = rises x xs h.1 i j (omega (arith, le)) (omega (arith, lt))
