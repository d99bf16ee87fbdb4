-- Rounds of loops, from their turn on.
use Rattle.std.proofs.Common.{◌≡◌, ◌≢◌, ℕ, zero, suc, ◌-◌, List, ◌∷◌, Bool, true, false, refl, sym, ap, ◌∙◌, arith}
use Rattle.std.specs.Prelude.{if◌then◌else◌, ℤ}
use Rattle.run_laws.specs.Turns.{State, Gives, after, ◌>>=◌, give, spend, repeat}
use Rattle.ob_types.specs.Store.{Bits, Store, Trap, Act, Address, Handed, At, Value}
use Rattle.ob_types.specs.Operators.{holds}
use Rattle.ob_types.specs.Statements.{skip, test}
use Rattle.ob_types.specs.Meaning.{value, at_most}
use Rattle.ob_types.specs.declared.tree.Expr.{Expr}
use Rattle.ob_types.specs.declared.statements.Stmt.{Stmt}
use Rattle.ob_types.specs.declared.statements.Branch.{Branch}
use Rattle.ob_types.specs.declared.program.Program.{Program}
use Rattle.eval_store.proofs.Endings.{assoc, same, lead}
use Rattle.eval_at_once.specs.Here.{here_of}
use Rattle.eval_at_once.specs.declared.active.Active.{Active}
use Rattle.eval_tasks.specs.declared.task.Branching.TheVariants.{Rounds}
use Rattle.eval_tasks.specs.Tasks.{Next, tries, until_round, for_test, for_step, for_rounds, evaluates, performs_all, branching}
use Rattle.eval_tasks.proofs.Statements.{round_chosen}
use Rattle.ob_eval.specs.Parts.{body_of, for_goes, for_behind, repeat_round, repeat_goes, repeat_behind}

one_less : (n : ℕ) → suc n - 1 ≡ n
one_less n = omega arith

module _ (p : Program) (k : Next) (x : Active) (vs : List Handed) (s t : State Store) (n : ℕ) (some : n ≢ 0) (turn : spend {C = Store} {U = Trap} s ≡ Gives tt t) where
  -- one turn of a loop, and its round
  pub first_round : (round : Act Bool) (n : ℕ) → n ≢ 0 → (repeat n round >>= λ _. k x vs) s ≡ after (after (round t) (λ ok. if ok then repeat (n - 1) round else give tt)) (λ _. k x vs)
  first_round round zero some = absurd (some refl)
  first_round round (suc n) some =
      ap (λ e. after (after e (λ _. round >>= λ ok. if ok then repeat n round else give tt)) (λ _. k x vs)) turn
      ∙ ap (λ j. after (after (round t) (λ ok. if ok then repeat j round else give tt)) (λ _. k x vs)) (sym (one_less n))

  -- WHILE

  pub while_ends : (bs : List Branch) → tries p x bs t ≡ Gives false t → branching p (Rounds n) bs k x vs s ≡ k x vs t
  while_ends bs h = first_round (tries p x bs) n some ∙ ap (λ e. after (after e (λ ok. if ok then repeat (n - 1) (tries p x bs) else give tt)) (λ _. k x vs)) h

  pub while_goes : (bs : List Branch) (body : List Stmt) → tries p x bs t ≡ (body_of p x body >>= λ _. give true) t → branching p (Rounds n) bs k x vs s ≡ performs_all p body (branching p (Rounds (n - 1)) bs k) x vs t
  while_goes bs body h = first_round (tries p x bs) n some ∙ round_chosen p k x vs t (n - 1) bs body h

  -- REPEAT

  tested : (body : List Stmt) (y : Expr) (ok : Bool) → test (value p (at_most p x.fuel) (here_of x) y) t ≡ Gives ok t → repeat_goes p n body y k x vs s ≡ after (after ((if ok then give false else (body_of p x body >>= λ _. give true)) t) (λ ok. if ok then repeat (n - 1) (repeat_round p x body y) else give tt)) (λ _. k x vs)
  tested body y ok h =
      first_round (repeat_round p x body y) n some
      ∙ ap (λ e. after (after (after e (λ ok. if ok then give false else (body_of p x body >>= λ _. give true))) (λ ok. if ok then repeat (n - 1) (repeat_round p x body y) else give tt)) (λ _. k x vs)) h

  pub repeat_ends : (body : List Stmt) (y : Expr) → test (value p (at_most p x.fuel) (here_of x) y) t ≡ Gives true t → repeat_goes p n body y k x vs s ≡ k x vs t
  repeat_ends body y h = tested body y true h

  pub repeat_again : (body : List Stmt) (y : Expr) → test (value p (at_most p x.fuel) (here_of x) y) t ≡ Gives false t → repeat_goes p n body y k x vs s ≡ performs_all p body (repeat_goes p (n - 1) body y k) x vs t
  repeat_again body y h =
      tested body y false h
      ∙ ap (λ e. after e (λ _. k x vs)) (assoc (body_of p x body t) (λ _. give true) (λ ok. if ok then repeat (n - 1) (repeat_round p x body y) else give tt))
      ∙ assoc (body_of p x body t) _ (λ _. k x vs)

  pub repeat_asks : (body : List Stmt) (y : Expr) → repeat_goes p n body y k x vs s ≡ evaluates p y (repeat_behind p (n - 1) body y k) x vs t
  repeat_asks body y =
      first_round (repeat_round p x body y) n some
      ∙ lead (λ e. after (after (until_round p (body_of p x body) (test (λ _. e)) t) (λ b. if b then repeat (n - 1) (repeat_round p x body y) else give tt)) (λ _. k x vs)) (λ t o. refl) (λ o. refl) (λ c t. refl) (value p (at_most p x.fuel) (here_of x) y t)

  -- FOR, with its limit and its variable's address on the stack

  pub for_turn : (step : ℤ) (body : List Stmt) (limit : ℕ) (a : Address) → for_goes p n step body k x (Value (Bits limit) ∷ At a ∷ vs) s ≡ after (for_test p a step limit t) (λ ok. if ok then performs_all p body (for_behind p (n - 1) step body k) x (Value (Bits limit) ∷ At a ∷ vs) else k x vs)
  for_turn step body limit a =
      first_round (do
        ok ← for_test p a step limit
        if ok then ((body_of p x body >>= λ _. for_step p a step) >>= λ _. give true) else give false) n some
      ∙ ap (λ e. after e (λ _. k x vs)) (assoc (for_test p a step limit t) _ _)
      ∙ assoc (for_test p a step limit t) _ (λ _. k x vs)
      ∙ same (for_test p a step limit t) (λ ok u. by ok u)
    where
      by : (ok : Bool) (u : State Store) → after (after ((if ok then ((body_of p x body >>= λ _. for_step p a step) >>= λ _. give true) else give false) u) (λ b. if b then for_rounds p (n - 1) a step limit (body_of p x body) else give tt)) (λ _. k x vs) ≡ (if ok then performs_all p body (for_behind p (n - 1) step body k) x (Value (Bits limit) ∷ At a ∷ vs) else k x vs) u
      by true u =
          ap (λ e. after (after e (λ b. if b then for_rounds p (n - 1) a step limit (body_of p x body) else give tt)) (λ _. k x vs)) (assoc (body_of p x body u) (λ _. for_step p a step) (λ _. give true))
          ∙ ap (λ e. after e (λ _. k x vs)) (assoc (body_of p x body u) _ (λ b. if b then for_rounds p (n - 1) a step limit (body_of p x body) else give tt))
          ∙ assoc (body_of p x body u) _ (λ _. k x vs)
          ∙ same (body_of p x body u) (λ _ w. ap (λ e. after e (λ _. k x vs)) (assoc (for_step p a step w) (λ _. give true) (λ b. if b then for_rounds p (n - 1) a step limit (body_of p x body) else give tt)))
      by false u = refl

-- behind a round of FOR
pub for_stepped : (p : Program) (k : Next) (x : Active) (vs : List Handed) (s t : State Store) (n : ℕ) (step : ℤ) (body : List Stmt) (limit : ℕ) (a : Address) → for_step p a step s ≡ Gives tt t → for_behind p n step body k x (Value (Bits limit) ∷ At a ∷ vs) s ≡ for_goes p n step body k x (Value (Bits limit) ∷ At a ∷ vs) t
for_stepped p k x vs s t n step body limit a h = ap (λ e. after (after e (λ _. for_rounds p n a step limit (body_of p x body))) (λ _. k x vs)) h

-- behind the condition of REPEAT
pub repeat_tested : (p : Program) (k : Next) (x : Active) (vs : List Handed) (s : State Store) (n : ℕ) (body : List Stmt) (y : Expr) (a : ℕ) (ok : Bool) → holds a ≡ ok → repeat_behind p n body y k x (Value (Bits a) ∷ vs) s ≡ (if ok then k x vs else performs_all p body (repeat_goes p n body y k) x vs) s
repeat_tested p k x vs s n body y a ok h =
    ap (λ ok. after (after ((if ok then give false else (body_of p x body >>= λ _. give true)) s) (λ b. if b then repeat n (repeat_round p x body y) else skip)) (λ _. k x vs)) h ∙ by ok
  where
    by : (ok : Bool) → after (after ((if ok then give false else (body_of p x body >>= λ _. give true)) s) (λ b. if b then repeat n (repeat_round p x body y) else skip)) (λ _. k x vs) ≡ (if ok then k x vs else performs_all p body (repeat_goes p n body y k) x vs) s
    by true = refl
    by false = ap (λ e. after e (λ _. k x vs)) (assoc (body_of p x body s) (λ _. give true) (λ b. if b then repeat n (repeat_round p x body y) else skip)) ∙ assoc (body_of p x body s) _ (λ _. k x vs)
