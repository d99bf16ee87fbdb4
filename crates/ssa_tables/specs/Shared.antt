-- Tables that are right for all procedures of a program.
use Rattle.std.specs.Prelude.{◌≡◌, ◌+◌, ◌<◌, ℕ, take, length}
use Rattle.ob_types.specs.Layout.{record_of, record_cells, cells}
use Rattle.ob_types.specs.Meaning.{texts_of}
use Rattle.ob_types.specs.declared.program.Program.{Program}
use Rattle.ssa_lowered.specs.Data.{layout, global_at, descriptor_at, text_at, within}
use Rattle.ssa_exprs.specs.Tables.{clamped, global_in, descriptor_in, level_in, size_in, offset_in, first_text_in, record_in, cells_in}
use Rattle.ssa_exprs.specs.declared.tables.ProgramTables.{ProgramTables}
use Rattle.ssa_tables.specs.Places.{type_cells_by}

-- what they share, and where the strings of each begin
pub record ServesAll (t : ProgramTables) (p : Program) : Type 0 where
  pub global : (m v : ℕ) → global_in t m v ≡ global_at p (layout p.types) m v
  pub descriptor : (r : ℕ) → descriptor_in t r ≡ within (descriptor_at p (layout p.types) r)
  pub level : (r : ℕ) → level_in t r ≡ (record_of p.types r).level
  pub size : (k : ℕ) → size_in t k ≡ (layout p.types).bytes k
  pub whole : (r : ℕ) → record_in t r ≡ (layout p.types).record_bytes r
  pub type_cells : (k : ℕ) → type_cells_by t.type_cells k ≡ cells p.types k
  pub cells : (r : ℕ) → cells_in t r ≡ record_cells p.types r
  pub offset : (r field : ℕ) → offset_in t r field ≡ (layout p.types).offset r field
  pub short : (r field : ℕ) → 8 + offset_in t r field < 4294967296
  pub text : (n : ℕ) → clamped t.texts n ≡ within (text_at p (layout p.types) n)
  pub first_text : (f : ℕ) → f < length p.procedures → first_text_in t f ≡ length (texts_of (take f p.procedures))
