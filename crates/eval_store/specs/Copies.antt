-- Copies, cell by cell.
use Rattle.std.specs.Prelude.{ℕ, Bool, true}
use Rattle.run_laws.specs.Turns.{◌>>=◌, give, spend}
use Rattle.ob_types.specs.Store.{Address, Act, past, fetch, put}
use Rattle.ob_types.specs.Statements.{Deed}

-- one cell, of those so far from two addresses
abbrev pub cell_copied : Address → Address → ℕ → Act Bool
cell_copied to from i = do
  c ← fetch (past from i)
  _ ← put (past to i) c
  give true

-- one cell, and its turn
abbrev pub cell_paid : Address → Address → Deed
cell_paid to from = do
  c ← fetch from
  _ ← put to c
  spend
