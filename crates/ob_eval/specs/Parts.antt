-- Branches, parts of CASE, and rounds of loops, as the steps take them.
use Rattle.std.specs.Prelude.{◌≡◌, ◌+◌, ℕ, List, Bool, true, false, Option, Some, None, if◌then◌else◌, ℤ}
use Rattle.std.specs.Borrow.{Bor}
use Rattle.run_laws.specs.Turns.{State, Gives, ◌>>=◌, give, repeat}
use Rattle.ob_types.specs.Store.{Store, Act, Handed}
use Rattle.ob_types.specs.Statements.{Deed, skip, otherwise, test}
use Rattle.ob_types.specs.Meaning.{value, effects_of, at_most}
use Rattle.ob_types.specs.declared.tree.Expr.{Expr}
use Rattle.ob_types.specs.declared.statements.Stmt.{Stmt}
use Rattle.ob_types.specs.declared.statements.Branch.{Branch}
use Rattle.ob_types.specs.declared.statements.TypePart.{TypePart}
use Rattle.ob_types.specs.declared.program.Program.{Program}
use Rattle.eval_at_once.specs.Here.{here_of}
use Rattle.eval_at_once.specs.Lists.{type_parts_by}
use Rattle.eval_at_once.specs.declared.active.Active.{Active}
use Rattle.eval_tasks.specs.declared.task.Stage.TheVariants.{Rounds, Behind}
use Rattle.eval_tasks.specs.Tasks.{Next, popped, limited, says, tries, until_round, for_step, for_rounds, staged}
use Rattle.eval_tasks.specs.Weights.{of_staged, all_statements}

-- the body of the part that is chosen, if one is
abbrev pub PartOf : (List Stmt → Deed) → Act Bool → Option (Bor (List Stmt)) → State Store → Type 0
PartOf does parts (Some body) s = parts s ≡ (does body.now >>= λ _. give true) s
PartOf does parts None s = parts s ≡ Gives false s

module _ (p : Program) where
  abbrev pub body_of : Active → List Stmt → Deed
  body_of x ss = effects_of p (at_most p x.fuel) (here_of x) x.fuel ss

  -- IF
  abbrev pub if_goes : List Branch → List Stmt → Next → Next
  if_goes bs other k x vs = otherwise (tries p x bs) (body_of x other) >>= λ _. k x vs

  -- CASE on types, behind its selector
  abbrev pub types_go : Option ℕ → List TypePart → Next → Next
  types_go t ps k x vs = (type_parts_by p (at_most p x.fuel) (here_of x) x.fuel t ps >>= λ _. skip) >>= λ _. k x vs

  -- FOR: before a round, and behind its body
  abbrev pub for_goes : ℕ → ℤ → List Stmt → Next → Next
  for_goes n step body k x vs = limited vs (λ limit a rest. for_rounds p n a step limit (body_of x body) >>= λ _. k x rest)

  abbrev pub for_behind : ℕ → ℤ → List Stmt → Next → Next
  for_behind n step body k x vs = limited vs (λ limit a rest. (for_step p a step >>= λ _. for_rounds p n a step limit (body_of x body)) >>= λ _. k x rest)

  -- REPEAT: before its condition, and behind it
  abbrev pub repeat_round : Active → List Stmt → Expr → Act Bool
  repeat_round x body y = until_round p (body_of x body) (test (value p (at_most p x.fuel) (here_of x) y))

  abbrev pub repeat_goes : ℕ → List Stmt → Expr → Next → Next
  repeat_goes n body y k x vs = repeat n (repeat_round x body y) >>= λ _. k x vs

  abbrev pub repeat_behind : ℕ → List Stmt → Expr → Next → Next
  repeat_behind n body y k x vs = popped vs (λ c rest. (until_round p (body_of x body) (says c) >>= λ b. if b then repeat n (repeat_round x body y) else skip) >>= λ _. k x rest)

  -- a statement that is a FOR or a REPEAT with these parts
  pub record IsFor (s : Stmt) (step : ℤ) (body : List Stmt) : Type 0 where
    pub rounds : (n : ℕ) (k : Next) (x : Active) (vs : List Handed) (t : State Store) → staged p (Rounds n) s k x vs t ≡ for_goes n step body k x vs t
    pub behind : (n : ℕ) (k : Next) (x : Active) (vs : List Handed) (t : State Store) → staged p (Behind n) s k x vs t ≡ for_behind n step body k x vs t
    pub weighs : (n : ℕ) → of_staged (Behind n) s ≡ 2

  pub record IsRepeat (s : Stmt) (body : List Stmt) (y : Expr) : Type 0 where
    pub rounds : (n : ℕ) (k : Next) (x : Active) (vs : List Handed) (t : State Store) → staged p (Rounds n) s k x vs t ≡ repeat_goes n body y k x vs t
    pub behind : (n : ℕ) (k : Next) (x : Active) (vs : List Handed) (t : State Store) → staged p (Behind n) s k x vs t ≡ repeat_behind n body y k x vs t
    pub weighs : (n : ℕ) → of_staged (Behind n) s ≡ 2 + all_statements body
