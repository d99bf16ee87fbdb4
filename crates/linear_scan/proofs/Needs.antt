-- What is needed from a position on, and what lives is needed.
use Rattle.std.proofs.Common.{◌≡◌, ℕ, zero, suc, ◌+◌, Bool, true, false, cond, List, [], ◌∷◌, ◌++◌, map, length, drop, Option, Some, None, refl, sym, ap, ◌∙◌, arith, add-one}
use Rattle.std.specs.Prelude.{is_some, option_to_list}
use Rattle.block_runs.specs.Live.{has}
use Rattle.lir_core.specs.declared.flow.Lir.{Lir}
use Rattle.trace_needs.specs.Needs.{Position, at_operation, first_need, next_need}
use Rattle.linear_scan.specs.Policy.{is_needed}

-- from position p on, needs are those of these positions
pub Follows : (ℕ → ℕ → Option ℕ) → ℕ → List Position → Type 0
Follows need p [] = (v : ℕ) → need v p ≡ None
Follows need p (x ∷ xs) = ((v : ℕ) → need v p ≡ cond (has x.needs v) (Some p) (need v (p + 1))) × Follows need (p + 1) xs

pub follows_none : (need : ℕ → ℕ → Option ℕ) (p : ℕ) → Follows need p [] → (v : ℕ) → need v p ≡ None
unfolding Follows
follows_none need p h = h

pub follows_head : (need : ℕ → ℕ → Option ℕ) (p : ℕ) (x : Position) (xs : List Position) → Follows need p (x ∷ xs) → (v : ℕ) → need v p ≡ cond (has x.needs v) (Some p) (need v (p + 1))
unfolding Follows
follows_head need p x xs h = h.0

pub follows_tail : (need : ℕ → ℕ → Option ℕ) (p : ℕ) (x : Position) (xs : List Position) → Follows need p (x ∷ xs) → Follows need (p + 1) xs
unfolding Follows
follows_tail need p x xs h = h.1

drop_more : (ps : List Position) (p : ℕ) (x : Position) (xs : List Position) → drop p ps ≡ x ∷ xs → drop (p + 1) ps ≡ xs
drop_more [] zero x xs e = cc
drop_more [] (suc p) x xs e = cc
drop_more (y ∷ ps) zero x xs e = let f : ps ≡ xs = cc in f
drop_more (y ∷ ps) (suc p) x xs e = let a : suc p + 1 ≡ suc (p + 1) = omega arith in ap (λ k. drop k (y ∷ ps)) a ∙ drop_more ps p x xs e

follows_from : (ps xs : List Position) (p : ℕ) → drop p ps ≡ xs → Follows (λ v at. next_need ps v at) p xs
unfolding Follows
follows_from ps [] p e = λ v. ap (first_need v p) e
follows_from ps (x ∷ xs) p e =
    let f = drop_more ps p x xs e in (
      λ v. ap (first_need v p) e ∙ ap (λ i. cond (has x.needs v) (Some p) (first_need v i xs)) (sym (add-one p)) ∙ ap (λ ys. cond (has x.needs v) (Some p) (first_need v (p + 1) ys)) (sym f),
      follows_from ps xs (p + 1) f,
    )

pub follows_all : (ps : List Position) → Follows (λ v at. next_need ps v at) 0 ps
follows_all ps = follows_from ps ps 0 refl

---- Needs along operations

module _ (need : ℕ → ℕ → Option ℕ) where
  -- a value that isn't used at a position is needed from it on where it is needed behind it
  pub passes : (p : ℕ) (x : Position) (xs : List Position) → Follows need p (x ∷ xs) → (v : ℕ) → has x.needs v ≡ false → is_needed need p v ≡ is_needed need (p + 1) v
  passes p x xs f v h = ap is_some (follows_head need p x xs f v ∙ ap (λ b. cond b (Some p) (need v (p + 1))) h)

  pub uses_needed : (p : ℕ) (x : Position) (xs : List Position) → Follows need p (x ∷ xs) → (v : ℕ) → has x.needs v ≡ true → is_needed need p v ≡ true
  uses_needed p x xs f v h = ap is_some (follows_head need p x xs f v ∙ ap (λ b. cond b (Some p) (need v (p + 1))) h)

  pub later_needed : (p : ℕ) (x : Position) (xs : List Position) → Follows need p (x ∷ xs) → (v : ℕ) → is_needed need (p + 1) v ≡ true → is_needed need p v ≡ true
  later_needed p x xs f v h = at_test (has x.needs v) refl
    where
      at_test : (b : Bool) → has x.needs v ≡ b → is_needed need p v ≡ true
      at_test true e = uses_needed p x xs f v e
      at_test false e = passes p x xs f v e ∙ h

  -- what lives along operations: it is used, or it isn't made, and lives behind them
  abbrev pub alive : List Lir → (ℕ → Bool) → ℕ → Bool
  alive [] last v = last v
  alive (x ∷ xs) last v = cond (has x.uses v) true (cond (has (option_to_list x.def) v) false (alive xs last v))

  pub alive_needed : (xs : List Lir) (last : ℕ → Bool) (p : ℕ) (rest : List Position) → Follows need p (map at_operation xs ++ rest) → ((v : ℕ) → last v ≡ true → is_needed need (p + length xs) v ≡ true) → (v : ℕ) → alive xs last v ≡ true → is_needed need p v ≡ true
  alive_needed [] last p rest f on v h = let e : p + 0 ≡ p = omega arith in ap (λ i. is_needed need i v) (sym e) ∙ on v h
  alive_needed (x ∷ xs) last p rest f on v h = at_test (has x.uses v) refl (has (option_to_list x.def) v) h (alive_needed xs last (p + 1) rest (follows_tail need p (at_operation x) (map at_operation xs ++ rest) f) (λ w a. let e : p + suc (length xs) ≡ p + 1 + length xs = omega arith in ap (λ i. is_needed need i w) (sym e) ∙ on w a) v)
    where
      at_test : (b : Bool) → has x.uses v ≡ b → (c : Bool) → cond b true (cond c false (alive xs last v)) ≡ true → (alive xs last v ≡ true → is_needed need (p + 1) v ≡ true) → is_needed need p v ≡ true
      at_test true e c h go = uses_needed p (at_operation x) (map at_operation xs ++ rest) f v e
      at_test false e true h go = cc
      at_test false e false h go = passes p (at_operation x) (map at_operation xs ++ rest) f v e ∙ go h
