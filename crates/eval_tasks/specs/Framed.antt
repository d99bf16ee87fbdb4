-- What was written before a part of the meaning stays in front of what it writes, and changes nothing else.
use Rattle.std.specs.Prelude.{◌≡◌, ℕ, List, ◌++◌}
use Rattle.run_laws.specs.Turns.{State, Ending, Gives, Fails, Spent}
use Rattle.ob_types.specs.Store.{Store, Trap, Act}

-- more was written before
abbrev pub shifted : List ℕ → State Store → State Store
shifted front s = record s { out = front ++ s.out }

abbrev pub prefixed : {A : Type 0} → List ℕ → Ending Store Trap A → Ending Store Trap A
prefixed front (Gives a s) = Gives a (shifted front s)
prefixed front (Fails trap out) = Fails trap (front ++ out)
prefixed front (Spent out) = Spent (front ++ out)

-- in every state
pub record Framed (front : List ℕ) {A : Type 0} (m : Act A) : Type 0 where
  pub by : (s : State Store) → m (shifted front s) ≡ prefixed front (m s)
