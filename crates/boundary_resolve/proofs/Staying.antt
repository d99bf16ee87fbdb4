-- The moves of an edge but for those from a place to itself.
use Rattle.std.proofs.Common.{◌≡◌, ℕ, suc, ◌+◌, ◌<◌, ◌≤◌, Bool, true, false, cond, not, List, [], ◌∷◌, ◌++◌, length, filter, drop, get_or, Option, Some, None, refl, sym, ap, ◌∙◌, arith, append_assoc}
use Rattle.std.specs.Prelude.{◌==◌}
use Rattle.std.proofs.lemmas.List.{drop_more}
use Rattle.std.proofs.lemmas.List.Elements.{filter-append}
use Rattle.lir_core.specs.declared.places.Place.{Place}
use Rattle.lir_core.specs.declared.places.Place.TheVariants.{Reg, Home}
use Rattle.lir_core.specs.declared.places.Move.{Move}
use Rattle.parallel_move.specs.Order.{is_moving}
use Rattle.boundary_resolve.specs.Moves.{register_of, register_or_home, reg_moves}
use Rattle.boundary_resolve.specs.Found.{is_in, is_home, IsRegister}

---- One move

one_kept : (b : Bool) (m : Move) → cond (not b) (m ∷ []) [] ≡ cond b [] (m ∷ [])
one_kept true m = refl
one_kept false m = refl

pub register_move : (o : Option ℕ) (r v : ℕ) → filter is_moving (record { to = Reg r; from = register_or_home o v } ∷ []) ≡ cond (is_in o r) [] (record { to = Reg r; from = register_or_home o v } ∷ [])
register_move None r v = refl
register_move (Some f) r v = one_kept (r == f) (record { to = Reg r; from = Reg f })

pub home_move : (o : Option ℕ) (home v : ℕ) → filter is_moving (record { to = Home home; from = register_or_home o v } ∷ []) ≡ cond (is_home o v home) [] (record { to = Home home; from = register_or_home o v } ∷ [])
home_move None home v = one_kept (home == v) (record { to = Home home; from = Home v })
home_move (Some f) home v = refl

-- behind moves
pub added : (moves moves' : List Move) (m : Move) (b : Bool) → filter is_moving (m ∷ []) ≡ cond b [] (m ∷ []) → b ≡ false → moves' ≡ moves ++ m ∷ [] → moves' ≡ moves ++ filter is_moving (m ∷ [])
added moves moves' m b is e more = more ∙ ap (λ x. moves ++ x) (sym (is ∙ ap (λ c. cond c [] (m ∷ [])) e))

---- All moves

moving_more : (moves xs : List Move) (m : Move) (moves' : List Move) → moves' ≡ moves ++ filter is_moving (m ∷ []) → moves' ++ filter is_moving xs ≡ moves ++ filter is_moving (m ∷ xs)
moving_more moves xs m moves' e =
    ap (λ x. x ++ filter is_moving xs) e ∙ append_assoc moves (filter is_moving (m ∷ [])) (filter is_moving xs) ∙ ap (λ x. moves ++ x) (sym (filter-append is_moving (m ∷ []) xs))

pub register_step : (from : ℕ → Place) (regs : List (Option ℕ)) (i v : ℕ) (all moves moves' : List Move) → moves ++ filter is_moving (reg_moves from i (drop i regs)) ≡ all → i < length regs → Some v ≡ get_or regs i None → moves' ≡ moves ++ filter is_moving (record { to = Reg i; from = from v } ∷ []) → moves' ++ filter is_moving (reg_moves from (i + 1) (drop (i + 1) regs)) ≡ all
register_step from regs i v all moves moves' inv lt is e =
    ap (λ k. moves' ++ filter is_moving (reg_moves from k (drop (i + 1) regs))) (let one : i + 1 ≡ suc i = omega arith in one)
    ∙ moving_more moves (reg_moves from (suc i) (drop (i + 1) regs)) (record { to = Reg i; from = from v }) moves' e
    ∙ sym (ap (λ x. moves ++ filter is_moving (reg_moves from i x)) (drop_more regs i None lt ∙ ap (λ y. y ∷ drop (i + 1) regs) (sym is))) ∙ inv

pub empty_step : (from : ℕ → Place) (regs : List (Option ℕ)) (i : ℕ) (all moves : List Move) → moves ++ filter is_moving (reg_moves from i (drop i regs)) ≡ all → i < length regs → None ≡ get_or regs i None → moves ++ filter is_moving (reg_moves from (i + 1) (drop (i + 1) regs)) ≡ all
empty_step from regs i all moves inv lt is =
    ap (λ k. moves ++ filter is_moving (reg_moves from k (drop (i + 1) regs))) (let one : i + 1 ≡ suc i = omega arith in one)
    ∙ sym (ap (λ x. moves ++ filter is_moving (reg_moves from i x)) (drop_more regs i None lt ∙ ap (λ y. y ∷ drop (i + 1) regs) (sym is))) ∙ inv

---- Registers

pub register_below : (regs : List (Option ℕ)) (i v r : ℕ) → register_of regs i v ≡ Some r → r < i + length regs
register_below [] i v r e = cc
register_below (None ∷ regs) i v r e = let b = register_below regs (suc i) v r e in omega (arith, b)
register_below (Some u ∷ regs) i v r e = at_test (u == v) e (register_below regs (suc i) v r)
  where
    at_test : (b : Bool) → cond b (Some i) (register_of regs (suc i) v) ≡ Some r → (register_of regs (suc i) v ≡ Some r → r < suc i + length regs) → r < i + length (Some u ∷ regs)
    at_test true f on = let is : i ≡ r = cc in omega (arith, is)
    at_test false f on = let b = on f in omega (arith, b)

pub is_register : (regs : List (Option ℕ)) (v : ℕ) → length regs ≤ 16 → IsRegister (register_of regs 0 v)
is_register regs v few r e = let b = register_below regs 0 v r e in omega (arith, b, few)
