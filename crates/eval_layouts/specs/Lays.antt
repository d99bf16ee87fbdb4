-- The tables of a program, beside what the meaning adds up at each use.
use Rattle.std.specs.Prelude.{◌≡◌, ℕ, ◌<◌, true, List, length, take}
use Rattle.ob_types.specs.Layout.{record_of, cells, cells_of_all, record_cells, field_place}
use Rattle.ob_types.specs.Meaning.{procedure_of, globals_of, locals_of, texts_of, zeroed}
use Rattle.ob_types.specs.Forms.{types_fine}
use Rattle.ob_types.specs.Table.{Table}
use Rattle.ob_types.specs.declared.program.Program.{Program}
use Rattle.eval_layouts.specs.Tables.{TableOf, RowsOf}

-- no type is nested in itself, and record types have the cells that they say
pub record IsMeasured (t : Table) : Type 0 where
  pub fine : types_fine t ≡ true
  pub records : (r : ℕ) → r < length t.records → (record_of t r).cells ≡ record_cells t r

-- the cells of types; where fields, modules' variables and procedures' variables stand; how many texts stand before those of a procedure; the
-- cells of a procedure's local variables, and of those that are arrays or records
pub record Lays (p : Program) (sizes : List ℕ) (field_rows global_rows local_rows : List (List ℕ)) (text_places own_cells zero_cells : List ℕ) : Type 0 where
  pub measured : IsMeasured p.types
  pub cells : TableOf (cells p.types) sizes
  pub fields : RowsOf (field_place p.types) field_rows
  pub globals : RowsOf (λ m v. cells_of_all p.types (take v (globals_of p m))) global_rows
  pub locals : RowsOf (λ g v. cells_of_all p.types (take v (locals_of (procedure_of p g)))) local_rows
  pub texts : TableOf (λ g. length (texts_of (take g p.procedures))) text_places
  pub own : TableOf (λ g. cells_of_all p.types (procedure_of p g).locals) own_cells
  pub zeroes : TableOf (λ g. zeroed p (procedure_of p g)) zero_cells
