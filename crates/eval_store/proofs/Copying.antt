-- Copies, one cell after the other.
use Rattle.std.proofs.Common.{◌≡◌, ℕ, zero, suc, ◌+◌, ◌-◌, ◌*◌, ◌<◌, List, true, ap, ap₂, sym, ◌∙◌, arith}
use Rattle.run_laws.specs.Turns.{State, Ending, Gives, after, give, spend, each_so}
use Rattle.ob_types.specs.Store.{Store, Trap, Address, Act, past, fetch, put}
use Rattle.ob_types.specs.Statements.{copy_cells}
use Rattle.eval_store.specs.Copies.{cell_copied, cell_paid}
use Rattle.eval_store.specs.Did.{Stopped}
use Rattle.eval_store.specs.declared.stop.Stop.{Stop}
use Rattle.eval_store.specs.declared.stop.Stop.TheVariants.{Trapped, TurnsSpent, NoSense, NoMemory}
use Rattle.eval_store.proofs.Endings.{assoc, same}

-- the cells that are left, from one on
abbrev pub copies : ℕ → ℕ → Address → Address → Act (Unit {0})
copies n i to from = each_so n i (cell_copied to from)

one : (n i : ℕ) (to from : Address) (s : State Store) → copies (suc n) i to from s ≡ after (cell_paid (past to i) (past from i) s) (λ _. copies n (suc i) to from)
one n i to from s =
    assoc (fetch (past from i) s) _ _
    ∙ same (fetch (past from i) s) (λ c t. assoc (put (past to i) c t) (λ _. give true) _ ∙ sym (assoc (put (past to i) c t) (λ _. spend) (λ _. copies n (suc i) to from)))
    ∙ sym (assoc (fetch (past from i) s) _ _)

by_one : (i : ℕ) → i * 1 ≡ i
by_one i = grind arith

-- one cell more was copied
pub copied_on : (n i : ℕ) (to from a b : Address) (s t : State Store) → 0 < n → a ≡ past from (i * 1) → b ≡ past to (i * 1) → cell_paid b a s ≡ Gives tt t → copies n i to from s ≡ copies (n - 1) (i + 1) to from t
copied_on zero i to from a b s t h ea eb did = absurd (omega (arith, h))
copied_on (suc n) i to from a b s t h ea eb did =
    let x : suc n - 1 ≡ n = omega arith in
    let y : i + 1 ≡ suc i = omega arith in
    one n i to from s
    ∙ ap (λ e. after e (λ _. copies n (suc i) to from)) (ap₂ (λ v w. cell_paid v w s) (sym (eb ∙ ap (past to) (by_one i))) (sym (ea ∙ ap (past from) (by_one i))) ∙ did)
    ∙ ap₂ (λ k j. copies k j to from t) (sym x) (sym y)

-- it stopped at a cell
pub copied_stops : (n i : ℕ) (to from a b : Address) (s : State Store) (stop : Stop) (out : List ℕ) → 0 < n → a ≡ past from (i * 1) → b ≡ past to (i * 1) → Stopped (cell_paid b a s) stop out → Stopped (copies n i to from s) stop out
copied_stops zero i to from a b s stop out h ea eb did = absurd (omega (arith, h))
copied_stops (suc n) i to from a b s stop out h ea eb did = by stop did
  where
    go : (e : Ending Store Trap (Unit {0})) → cell_paid b a s ≡ e → copies (suc n) i to from s ≡ after e (λ _. copies n (suc i) to from)
    go e is = one n i to from s ∙ ap (λ e. after e (λ _. copies n (suc i) to from)) (ap₂ (λ v w. cell_paid v w s) (sym (eb ∙ ap (past to) (by_one i))) (sym (ea ∙ ap (past from) (by_one i))) ∙ is)

    by : (stop : Stop) → Stopped (cell_paid b a s) stop out → Stopped (copies (suc n) i to from s) stop out
    by (Trapped kind f) did = go _ did
    by TurnsSpent did = go _ did
    by NoSense did = go _ did
    by NoMemory did = tt
