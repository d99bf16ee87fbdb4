-- Copies of the meaning, all cells at once.
use Rattle.std.specs.Prelude.{◌≡◌, ℕ, zero, suc, ◌+◌, ◌*◌, ◌<◌, Option, Some, None, nat_le}
use Rattle.run_laws.specs.Turns.{Gives, after, ◌>>=◌, spend}
use Rattle.ob_types.specs.Store.{Cell, Bits, Address, Store, Act, Handed, objects, with_objects, cell_of, cell_put, past, unless, spend_all, place, span}
use Rattle.ob_types.specs.Statements.{Deed}

-- 0 where there is none
abbrev pub cell_or_zero : Option Cell → Cell
cell_or_zero None = Bits 0
cell_or_zero (Some c) = c

abbrev pub held_cell : Address → Store → Cell
held_cell a s = cell_or_zero (cell_of (objects a.area s) a.object a.cell)

abbrev pub with_cell : Address → Cell → Store → Store
with_cell a c s = with_objects a.area (cell_put (objects a.area s) a.object a.cell c) s

-- the first n cells of the destination have what those of the source have in store s
abbrev pub with_copied : ℕ → Address → Address → Store → Store
with_copied zero to from s = s
with_copied (suc n) to from s = with_cell (past to n) (held_cell (past from n) s) (with_copied n to from s)

-- a turn for each of n cells, and then all of them at once
abbrev pub copy_at_once : ℕ → Address → Address → Deed
copy_at_once n to from s = after (spend_all n s) (λ u t. Gives tt (record t { store = with_copied n to from s.store }))

-- the meaning's copies of arrays and of records, with that for all their cells

abbrev pub copy_array_at_once : ℕ → Act Handed → Option ℕ → Act Handed → Option ℕ → ℕ → Deed
copy_array_at_once f d n e m cells = do
  to ← span d n
  from ← span e m
  _ ← unless f 12 (nat_le from.length to.length)
  _ ← spend
  copy_at_once (from.length * cells) to.at from.at

abbrev pub copy_record_at_once : Act Handed → Act Handed → ℕ → Deed
copy_record_at_once d e cells = do
  to ← place d
  from ← place e
  _ ← spend
  copy_at_once cells to from

-- n cells from an address on are there
pub record CellsThere (n : ℕ) (a : Address) (s : Store) : Type 0 where
  pub cell : (i : ℕ) → i < n → (c : Cell) × (cell_of (objects a.area s) a.object (a.cell + i) ≡ Some c)

-- no cell is written before it is read: the i-th one that is read isn't an earlier one that is written
pub record IsAhead (n : ℕ) (to from : Address) : Type 0 where
  pub apart : (i j : ℕ) → j < i → i < n → to.area ≡ from.area → to.object ≡ from.object → to.cell + j ≡ from.cell + i → ⊥
