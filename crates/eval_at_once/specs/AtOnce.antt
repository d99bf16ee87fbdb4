-- What was done at once, beside what the meaning does.
use Rattle.std.specs.Prelude.{◌≡◌, List, ◌∷◌, ◌++◌, Bool, true, false, Result, Ok, Err}
use Rattle.std.specs.Borrow.{Bor}
use Rattle.run_laws.specs.Turns.{State, Ending, Gives, ◌>>=◌, give}
use Rattle.ob_types.specs.Store.{Store, Trap}
use Rattle.ob_types.specs.Statements.{Deed}
use Rattle.ob_types.specs.declared.statements.Stmt.{Stmt}
use Rattle.ob_types.specs.declared.statements.Branch.{Branch}
use Rattle.eval_store.specs.Did.{Stopped}
use Rattle.eval_store.specs.declared.stop.Stop.{Stop}
use Rattle.eval_at_once.specs.declared.choosing.Choice.{Choice}
use Rattle.eval_at_once.specs.declared.choosing.Choice.TheVariants.{Body, Nothing, Unknown}

-- a deed was done, or nothing was changed, or it stopped
abbrev pub Done : Ending Store Trap (Unit {0}) → Result Bool Stop → State Store → State Store → Type 0
Done e (Ok true) old new = e ≡ Gives tt new
Done e (Ok false) old new = new ≡ old
Done e (Err stop) old new = Stopped e stop new.out

-- some first deeds of a list were done, or one of them stopped
abbrev pub DoneSome : (List Stmt → Deed) → List Stmt → State Store → Result (Bor (List Stmt)) Stop → State Store → Type 0
DoneSome does all old (Ok rest) new = does all old ≡ does rest.now new
DoneSome does all old (Err stop) new = Stopped (does all old) stop new.out

-- which of some branches is chosen is known, or a condition stopped
abbrev pub Chose : (List Stmt → Deed) → Ending Store Trap Bool → Result Choice Stop → State Store → Type 0
Chose does e (Ok (Body body)) s = e ≡ (does body.now >>= λ _. give true) s
Chose does e (Ok Nothing) s = e ≡ Gives false s
Chose does e (Ok Unknown) s = Unit {0}
Chose does e (Err stop) s = Stopped e stop s.out

-- a body that is chosen is that of a branch
abbrev pub IsAmong : List Branch → Result Choice Stop → Type 0
IsAmong branches (Ok (Body body)) = (front : List Branch) × (branch : Branch) × (back : List Branch) × (branches ≡ front ++ branch ∷ back) × (branch.body.items ≡ body.now)
IsAmong branches _ = Unit {0}

-- what is left of a list is an end of it
abbrev pub IsEnd : {A : Type 0} → List A → Result (Bor (List A)) Stop → Type 0
IsEnd {A} all (Ok rest) = (front : List A) × (all ≡ front ++ rest.now)
IsEnd all (Err stop) = Unit {0}
