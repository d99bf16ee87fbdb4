-- Cells of the first types of a table, and what these take.
use Rattle.std.specs.Prelude.{◌≡◌, ◌<◌, ℕ, List, length, slice_index}
use Rattle.ob_types.specs.Layout.{cells}
use Rattle.ob_types.specs.Table.{Table}
use Rattle.ob_types.specs.Trees.{tree_extent, data_tree}
use Rattle.ob_types.specs.declared.types.Extent.{Extent}
use Rattle.ssa_tables.specs.Places.{extent_by}

pub record AreFirstCells (t : Table) (counts : List ℕ) : Type 0 where
  pub at : (k : ℕ) → k < length counts → slice_index counts k ≡ cells t k

pub record AreFirstExtents (t : Table) (extents : List Extent) : Type 0 where
  pub at : (k : ℕ) → k < length extents → extent_by extents k ≡ tree_extent (data_tree t k)
