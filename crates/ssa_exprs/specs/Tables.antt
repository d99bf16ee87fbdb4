-- Tables of a program and a procedure, and that they are right.
use Rattle.std.specs.Prelude.{◌≡◌, ℕ, ◌+◌, ◌-◌, ◌*◌, ◌<◌, min, List, [], length, Option, Some, None, slice_get, slice_index, slice_index_or, if◌then◌else◌, nat_lt, Bool}
use Rattle.ob_types.specs.Layout.{record_cells}
use Rattle.ob_types.specs.Meaning.{text_number, kind_in}
use Rattle.ob_types.specs.declared.tree.Expr.{Expr}
use Rattle.ob_types.specs.declared.tree.Designator.{Designator}
use Rattle.ob_types.specs.declared.tree.Base.{Base}
use Rattle.ob_types.specs.declared.program.Program.{Program}
use Rattle.ssa_lowered.specs.Data.{layout, global_at, text_at, within}
use Rattle.ssa_lowered.specs.Pieces.{Low, give, ◌>>=◌}
use Rattle.ssa_lowered.specs.Control.{Lowers}
use Rattle.ssa_lowered.specs.Values.{Named, At, const}
use Rattle.ssa_lowered.specs.Variables.{Site, Register, Memory}
use Rattle.ssa_exprs.specs.Named.{named_of}
use Rattle.ssa_exprs.specs.declared.named.Named.{Named as NamedValue}
use Rattle.ssa_exprs.specs.declared.tables.ProgramTables.{ProgramTables}
use Rattle.ssa_exprs.specs.declared.tables.Tables.{Tables}
use Rattle.ssa_lowered.specs.Lowered.{Here, expr, named, descriptor, level, variable_of, parameter, based, local_by}

-- the item of a number, or the last one
abbrev pub clamped : List ℕ → ℕ → ℕ
clamped xs i = if nat_lt i (length xs) then slice_index xs i else slice_index xs (length xs - 1)

abbrev pub of_row : List (List ℕ) → ℕ → ℕ → ℕ → ℕ
of_row xss i j other = if nat_lt i (length xss) then clamped (slice_index_or xss i []) j else other

abbrev pub global_in : ProgramTables → ℕ → ℕ → ℕ
global_in t m v = of_row t.globals m v t.descriptors

abbrev pub descriptor_in : ProgramTables → ℕ → ℕ
descriptor_in t r = min (t.descriptors + 128 * r) 16777215

abbrev pub level_in : ProgramTables → ℕ → ℕ
level_in t r = slice_index_or t.levels r 0

abbrev pub size_in : ProgramTables → ℕ → ℕ
size_in t k = slice_index_or t.sizes k 8

abbrev pub record_in : ProgramTables → ℕ → ℕ
record_in t r = slice_index_or t.records r 0

abbrev pub cells_in : ProgramTables → ℕ → ℕ
cells_in t r = slice_index_or t.cells r 0

abbrev pub offset_in : ProgramTables → ℕ → ℕ → ℕ
offset_in t r field = of_row t.offsets r field 0

abbrev pub first_text_in : ProgramTables → ℕ → ℕ
first_text_in t f = slice_index_or t.first_texts f 0

abbrev pub text_in : Tables → ℕ → ℕ
text_in t k = clamped t.program.now.texts (t.first_text + k)

-- the expression and the designator of a procedure, in the layout in use
abbrev pub expr_in : Program → Here → Expr → Lowers
expr_in p here e = expr p (layout p.types) here e

abbrev pub named_in : Program → Here → Designator → Low Named
named_in p here d = named p (layout p.types) here d

-- whether the scalar that a designator names takes one byte
abbrev pub small_in : Program → Designator → Bool
small_in p d = (layout p.types).is_small (kind_in d)

-- where a designator begins, and where a parameter and a variable are
abbrev pub based_in : Program → Here → Base → Low Named
based_in p here at = based p (layout p.types) here at

abbrev pub passed_in : Program → Here → ℕ → Low Named
passed_in p here k = parameter p (layout p.types) here k

abbrev pub own_in : Program → Here → ℕ → Low Named
own_in p here x = local_by p (layout p.types) here (variable_of p (layout p.types) here x).site x

-- where a variable is, by its distance from the end of the local data
abbrev pub site_by : ℕ → Site → Option ℕ
site_by bytes Register = None
site_by bytes (Memory n) = Some (bytes - n)

-- what a parameter names; where there is none, a value is made
abbrev pub parameter_in : Option NamedValue → Low Named
parameter_in (Some h) = give (named_of h)
parameter_in None = do
  a ← const 0
  give (At a)

abbrev pub local_in : Tables → ℕ → Option ℕ
local_in t x = slice_index_or t.locals x None

-- the tables are right for a procedure of a program
pub record Serves (t : Tables) (p : Program) (here : Here) : Type 0 where
  pub global : (m v : ℕ) → global_in t.program.now m v ≡ global_at p (layout p.types) m v
  pub descriptor : (r : ℕ) → descriptor_in t.program.now r ≡ descriptor p (layout p.types) here r
  pub level : (r : ℕ) → level_in t.program.now r ≡ level p (layout p.types) here r
  pub size : (k : ℕ) → size_in t.program.now k ≡ (layout p.types).bytes k
  pub whole : (r : ℕ) → record_in t.program.now r ≡ (layout p.types).record_bytes r
  pub cells : (r : ℕ) → cells_in t.program.now r ≡ record_cells p.types r
  pub offset : (r field : ℕ) → offset_in t.program.now r field ≡ (layout p.types).offset r field
  pub short : (r field : ℕ) → 8 + offset_in t.program.now r field < 4294967296
  pub text : (k : ℕ) → text_in t k ≡ within (text_at p (layout p.types) (text_number p here.number k))
  pub parameter : (k : ℕ) → (parameter p (layout p.types) here k ≡ parameter_in (slice_get t.parameters k))
  pub local : (x : ℕ) → local_in t x ≡ site_by here.bytes (variable_of p (layout p.types) here x).site
