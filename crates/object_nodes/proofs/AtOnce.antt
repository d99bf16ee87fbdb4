-- Copies are at once.
use Rattle.std.proofs.Common.{◌≡◌, ⊎_elim, ℕ, zero, suc, ◌+◌, ◌<◌, ◌≤◌, List, Bool, true, Option, Some, refl, sym, ap, ◌∙◌, arith}
use Rattle.std.specs.Prelude.{if◌then◌else◌}
use Rattle.run_laws.specs.Turns.{State, Ending, Gives, after, ◌>>=◌, give, look, change, spend, spend_of, each_so}
use Rattle.ob_types.specs.Store.{Cell, Address, Store, Trap, Act, senseless, given, fetch, put, past, objects, with_objects, cell_of, cell_put, can_write}
use Rattle.ob_types.specs.Statements.{copy_cells}
use Rattle.ob_sound.proofs.Typed.{written}
use Rattle.object_nodes.specs.AtOnce.{cell_or_zero, held_cell, with_cell, with_copied, copy_at_once, CellsThere, IsAhead}

abbrev mk : Store → List ℕ → ℕ → State Store
mk s out n = record { store = s; out = out; turns = n }

-- turns alone
abbrev waits : ℕ → Act Bool
waits i = give true

abbrev with_store : Store → Unit {0} → State Store → Ending Store Trap (Unit {0})
with_store z u t = Gives tt (record t { store = z })

-- what turns alone come to doesn't go by the store, where another one takes its place
turns_any : (k i : ℕ) (s t z : Store) (out : List ℕ) (n : ℕ) → after (each_so k i waits (mk s out n)) (with_store z) ≡ after (each_so k i waits (mk t out n)) (with_store z)
turns_any zero i s t z out n = refl
turns_any (suc k) i s t z out zero = refl
turns_any (suc k) i s t z out (suc n) = turns_any k (suc i) s t z out n

module _ (n : ℕ) (to from : Address) (o : Store) (there : CellsThere n to o) (here : CellsThere n from o) (may : can_write to.area ≡ true) (ahead : IsAhead n to from) where
  abbrev so_far : ℕ → Store
  so_far k = with_copied k to from o

  abbrev part : ℕ → Act Bool
  part i = fetch (past from i) >>= λ c. put (past to i) c >>= λ u. give true

  -- a cell that is read later is as it was
  read_same : (k i : ℕ) → k ≤ i → i < n → cell_of (objects from.area (so_far k)) from.object (from.cell + i) ≡ cell_of (objects from.area o) from.object (from.cell + i)
  read_same zero i le lt = refl
  read_same (suc k) i le lt = ⊎_elim
      (λ h. absurd (ahead.apart i k (omega (arith, le)) lt h.0 h.1 h.2))
      (λ e. e ∙ read_same k i (omega (arith, le)) lt)
      (written (so_far k) to.area to.object (to.cell + k) (held_cell (past from k) o) from.area from.object (from.cell + i))

  -- a cell that was there still is
  there_still : (k j : ℕ) → j < n → (c : Cell) × (cell_of (objects to.area (so_far k)) to.object (to.cell + j) ≡ Some c)
  there_still zero j lt = there.cell j lt
  there_still (suc k) j lt = let old = there_still k j lt in ⊎_elim
      (λ h. (held_cell (past from k) o, h.3 old.0 (ap (λ c. cell_of (objects to.area (so_far k)) to.object c) h.2 ∙ old.1)))
      (λ e. (old.0, e ∙ old.1))
      (written (so_far k) to.area to.object (to.cell + k) (held_cell (past from k) o) to.area to.object (to.cell + j))

  abbrev writes : ℕ → Cell → Bool → Act (Unit {0})
  writes i c b = if b then change (with_objects to.area (cell_put (objects to.area (so_far i)) to.object (to.cell + i) c)) else senseless

  abbrev puts : ℕ → Cell → Cell → Act (Unit {0})
  puts i c old = look (objects to.area) >>= λ all. if can_write to.area then change (with_objects to.area (cell_put all to.object (to.cell + i) c)) else senseless

  part_is : (i : ℕ) → i < n → (out : List ℕ) (turns : ℕ) → part i (mk (so_far i) out turns) ≡ Gives true (mk (so_far (suc i)) out turns)
  part_is i lt out turns =
      let source = here.cell i lt in
      let old = there_still i i lt in
      let read : cell_of (objects from.area (so_far i)) from.object (from.cell + i) ≡ Some source.0 = read_same i i (omega arith) lt ∙ source.1 in
      let value : source.0 ≡ held_cell (past from i) o = sym (ap cell_or_zero source.1) in
      ap (λ (e : Option Cell). after (given e (mk (so_far i) out turns)) (λ c. put (past to i) c >>= λ u. give true)) read
      ∙ ap (λ (e : Option Cell). after (after (given e (mk (so_far i) out turns)) (puts i source.0)) (λ u. give true)) old.1
      ∙ ap (λ (b : Bool). after (writes i source.0 b (mk (so_far i) out turns)) (λ u. give true)) may
      ∙ ap (λ (c : Cell). Gives true (mk (with_cell (past to i) c (so_far i)) out turns)) value

  from_on : (k i : ℕ) → i + k ≡ n → (out : List ℕ) (turns : ℕ) → each_so k i part (mk (so_far i) out turns) ≡ after (each_so k i waits (mk (so_far i) out turns)) (with_store (so_far n))
  from_on zero i all out turns = let e : i ≡ n = omega (arith, all) in ap (λ j. Gives tt (mk (so_far j) out turns)) e
  from_on (suc k) i all out turns =
      ap (λ (e : Ending Store Trap Bool). after e (λ goes_on. spend >>= λ u. if goes_on then each_so k (suc i) part else give tt)) (part_is i (omega (arith, all)) out turns)
      ∙ by_turns (λ t. from_on k (suc i) (omega (arith, all)) out t) turns
    where
      by_turns : ((t : ℕ) → each_so k (suc i) part (mk (so_far (suc i)) out t) ≡ after (each_so k (suc i) waits (mk (so_far (suc i)) out t)) (with_store (so_far n))) → (t : ℕ)
          → after (spend_of t (mk (so_far (suc i)) out t)) (λ u. each_so k (suc i) part) ≡ after (after (spend_of t (mk (so_far i) out t)) (λ u. each_so k (suc i) waits)) (with_store (so_far n))
      by_turns rest zero = refl
      by_turns rest (suc t) = rest t ∙ turns_any k (suc i) (so_far (suc i)) (so_far i) (so_far n) out t

  pub at_once : (out : List ℕ) (turns : ℕ) → copy_cells n to from (mk o out turns) ≡ copy_at_once n to from (mk o out turns)
  at_once out turns = from_on n 0 (omega arith) out turns
