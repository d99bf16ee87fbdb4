-- What stays all through a run, and what an active call has; where they stand in memory is the crate's below (held_stores).
use Rattle.std.specs.Prelude.{◌≡◌, ◌≢◌, ℕ, ◌<◌, ◌≤◌, List, [], length, map, slice_index_or, Bool, true, Option, Some, None, cond, nat_lt}
use Rattle.a64_memory.specs.Memory.{Shape}
use Rattle.a64_memory.specs.Memory.{Area as Region}
use Rattle.block_runs.specs.Blocks.{Procedure}
use Rattle.block_runs.specs.States.{Frame, State, Point, Stop}
use Rattle.block_runs.specs.States.{Kind as Stopped}
use Rattle.block_runs.specs.Points.{AreCodePlaces}
use Rattle.ob_types.specs.Forms.{Form, all}
use Rattle.ob_types.specs.Layout.{kind_of, cells, record_cells, extends}
use Rattle.ob_types.specs.LegalTypes.{most_cells}
use Rattle.ob_types.specs.Trees.{DataTree, Scalar, data_tree}
use Rattle.ob_types.specs.declared.program.Program.{Program}
use Rattle.ob_types.specs.declared.types.TypeKind.TheVariants.{Record as RecordOf, Pointer as PointerTo}
use Rattle.ob_types.specs.WellFormed.{callable as can_call}
use Rattle.ob_types.specs.Meaning.{procedure_of}
use Rattle.ssa_lowered.specs.Data.{Layout, IsLayout}
use Rattle.ssa_lowered.specs.Variables.{words_of}
use Rattle.block_runs.specs.Effects.{char_bytes}
use Rattle.block_runs.specs.Steps.{may_call}
use Rattle.ob_types.specs.Store.{Cell, Frames, Address, Store, Handed, Trap, Kind}
use Rattle.object_nodes.specs.Nodes.{VariableNode}
use Rattle.held_stores.specs.Places.{Ground, Active}
use Rattle.held_stores.specs.Held.{StandsAt}
use Rattle.held_stores.specs.Held.{Held as HeldBy, Later as LaterBy, ValueIs as StandsFor}

-- a trap of the meaning, and the system's
abbrev pub same_trap : Trap → Stop → Type 0
same_trap (Kind k f) (Stopped n p) = (k ≡ n) × (f ≡ p)
same_trap _ _ = ⊥

-- what is the same all through a run: the checked program, and the layout that it was lowered by, packed or not; the procedures that run; the
-- addresses of their code; where the variables of a global object and the strings begin; the addresses of the descriptors, and what stands at the
-- addresses of their cells; the memory's areas; the points; and where and with how many turns it began
pub record Whole : Type 0 where
  pub program : Program
  pub packed : Bool
  pub layout : Layout
  pub procedures : List Procedure
  pub code : ℕ → ℕ
  pub global : (object variable : ℕ) → ℕ
  pub string : ℕ → ℕ
  pub descriptor : ℕ → ℕ
  pub entry : ℕ → Option ℕ
  pub areas : List Shape
  pub points : List Point
  pub first : State
  pub turns : ℕ

-- one active call: its procedure, its argument words, what was handed over, the calls that wait for it, the module body that runs, the address behind its local data,
-- the sizes of the calls' objects, the number of its own, where the variables of each begin that are in memory, and the types of each one's; how many variables it has,
-- which of them are in registers, and each one's first cell; the store at its beginning
pub record Level : Type 0 where
  pub proc : ℕ
  pub args : List ℕ
  pub arguments : List Handed
  pub callers : List Frame
  pub body : ℕ
  pub local : ℕ
  pub sizes : List ℕ
  pub frame : ℕ
  pub slot : (call variable : ℕ) → Option ℕ
  pub types : List (List ℕ)
  pub count : ℕ
  pub in_register : ℕ → Bool
  pub cell : ℕ → ℕ
  pub store : Store

-- the ground of its stores, and the active calls, as the store's memory has them
abbrev pub ground : Whole → Ground
ground w = record {
  program = w.program;
  packed = w.packed;
  global = w.global;
  string = w.string;
  descriptor = w.descriptor;
  entry = w.entry;
  code = λ f. cond (nat_lt f (length w.procedures)) (Some (w.code f)) None;
  areas = w.areas;
}

abbrev pub active : Level → Active
active l = record { types = l.types; slot = l.slot; cells = l.sizes; local = l.local }

-- the program was lowered by a layout; its characters are as wide as the system's; code addresses are told apart, procedures that may be called are there, and they may be called with their argument words; no type and no record
-- type has more cells than types may have; the record types of types and of pointers' objects are in the table, and what extends one of the table is
pub record Right (w : Whole) : Type 0 where
  pub laid : IsLayout w.packed w.program.types w.layout
  pub character : w.layout.character ≡ char_bytes
  pub codes : AreCodePlaces (length w.procedures) w.code
  pub callable : (g : ℕ) → can_call w.program g ≡ true → g < length w.procedures
  pub may : (g : ℕ) → can_call w.program g ≡ true → (xs : List ℕ) → length xs ≡ words_of (procedure_of w.program g).formals → may_call w.procedures g xs ≡ true
  pub cells : (k : ℕ) → cells w.program.types k ≤ most_cells
  pub record_cells : (r : ℕ) → record_cells w.program.types r ≤ most_cells
  pub record_there : (k r : ℕ) → kind_of w.program.types k ≡ RecordOf r → r < length w.program.types.records
  pub target_there : (k r : ℕ) → kind_of w.program.types k ≡ PointerTo r → r < length w.program.types.records
  pub extension_there : (t r : ℕ) → r < length w.program.types.records → extends w.program.types t r ≡ true → t < length w.program.types.records

-- an input is bytes
abbrev pub AreInput : List ℕ → Type 0
AreInput xs = all (λ x. nat_lt x 256) xs ≡ true

-- the number that stands for a value, memory that holds the store, a later store, and the address of what has a tree, in a call of a run
abbrev pub ValueIs : Whole → List ℕ → Cell → ℕ → Type 0
ValueIs w tags c x = StandsFor (ground w) tags c x

abbrev pub Held : Whole → Level → Store → List Region → Type 0
Held w l s m = HeldBy (ground w) (active l) s m

abbrev pub Later : Whole → Level → Store → Store → Type 0
Later w l s t = LaterBy (ground w) (active l) l.frame s t

abbrev pub AddressIs : Whole → Level → Address → DataTree → ℕ → Store → Type 0
AddressIs w l a t x s = StandsAt (ground w) (active l) s.tags a t x

-- a register variable's cell
abbrev pub local : Level → ℕ → Address
local l x = record { area = Frames; object = l.frame; cell = l.cell x }

-- register variables are in no memory, each is a scalar, and each has a cell of its own
pub record Apart (w : Whole) (l : Level) : Type 0 where
  pub registers : (x : ℕ) → x < l.count → l.in_register x ≡ true → l.slot l.frame x ≡ None
  pub scalars : (x : ℕ) → x < l.count → l.in_register x ≡ true → (f : Form) × VariableNode w.packed (map (data_tree w.program.types) (slice_index_or l.types l.frame [])) x (l.cell x) 0 (Scalar f)
  pub cells : (x y : ℕ) → x ≢ y → x < l.count → y < l.count → l.in_register x ≡ true → l.in_register y ≡ true → l.cell x ≢ l.cell y
