-- What the code of a whole procedure is held against.
use Rattle.std.specs.Prelude.{◌≡◌, ℕ, Option, map, not}
use Rattle.ob_types.specs.Table.{Table}
use Rattle.ob_types.specs.declared.program.Procedure.{Procedure}
use Rattle.ob_types.specs.declared.program.Program.{Program}
use Rattle.ssa_core.specs.declared.procedure.Proc.{Proc}
use Rattle.ssa_lowered.specs.Lowered.{Here}
use Rattle.ssa_exprs.specs.declared.tables.Tables.{Tables}
use Rattle.ssa_exprs.specs.Tables.{Serves}
use Rattle.ssa_exprs.specs.Making.{View}
use Rattle.ssa_tables.specs.declared.locals.Locals.{Locals}
use Rattle.ssa_tables.specs.Local.{seen}
use Rattle.ssa_build.specs.Blocks.{blocks_in}

-- in each program with these types, for this procedure with these variables, where the tables serve
abbrev pub InProgram : Tables → Table → Procedure → Locals → (Program → Here → Type 0) → Type 0
InProgram t types procedure locals Claim =
    (p : Program) (here : Here) → Serves t p here → p.types ≡ types → here.procedure ≡ procedure → map seen locals.variables ≡ here.variables → locals.bytes ≡ here.bytes → Claim p here

-- the procedure of what was made, with the number of its result's value
abbrev pub completed : View → (words : ℕ) → (answer : Option ℕ) → Procedure → Locals → Proc
completed made words answer procedure locals = record {
  blocks = blocks_in made words answer;
  values = made.values;
  args = words;
  counted = not procedure.is_body;
  local_cells = locals.cells;
  local_bytes = locals.bytes;
}
