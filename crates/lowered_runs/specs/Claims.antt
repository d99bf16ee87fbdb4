-- What is claimed of a program's run: its lowered procedures keep up with its meaning.
use Rattle.std.specs.Prelude.{◌≡◌, ℕ, ◌+◌, ◌≤◌, ◌||◌, List, length, Bool, true, not}
use Rattle.run_laws.specs.Runs.{Keeps}
use Rattle.a64_memory.specs.Memory.{AreBytes}
use Rattle.block_runs.specs.Blocks.{Procedure}
use Rattle.a64_memory.specs.Areas.{data_base}
use Rattle.block_runs.specs.Effects.{char_bytes}
use Rattle.block_runs.specs.First.{first_state}
use Rattle.block_runs.specs.Points.{least, all_points, AreCodePlaces}
use Rattle.block_runs.specs.Steps.{block_system}
use Rattle.ob_types.specs.Meaning.{texts_of, meaning}
use Rattle.ob_types.specs.WellFormed.{is_empty, well_formed}
use Rattle.ob_types.specs.declared.program.Program.{Program}
use Rattle.ssa_core.specs.Procedures.{procedures}
use Rattle.ssa_lowered.specs.Data.{Layout, IsLayout, layout, globals_room}
use Rattle.ssa_lowered.specs.Constants.{constants as own_constants}
use Rattle.ssa_lowered.specs.Lowered.{lowered, lowered_by}
use Rattle.lowered_runs.specs.Words.{same_trap, AreInput}

-- what runs
abbrev pub code_of : Program → List Procedure
code_of p = procedures (lowered p)

abbrev pub data_bytes : Program → ℕ
data_bytes p = globals_room p (layout p.types)

-- the bytes of its record types' descriptors and of its strings
abbrev pub constants_of : Program → List ℕ
constants_of p = own_constants p (layout p.types) data_base

-- it has record types or strings
abbrev pub has_constants : Program → Bool
has_constants p = not (is_empty p.types.records) || not (is_empty (texts_of p.procedures))

-- the bytes behind the globals are the program's own, and the number of an operation can say where each stands
pub record ConstantsStand (p : Program) (constants : List ℕ) : Type 0 where
  pub same : constants ≡ constants_of p
  pub near : data_bytes p + length constants ≤ 0x1000000

-- a well-formed program; its input; the bytes behind the globals; the addresses of its code; there are at most
-- 8 MiB of globals, the bytes behind them leave room for what comes then, and where there are record types or strings, these stand there
pub record CanRun (p : Program) (input constants : List ℕ) (code : ℕ → ℕ) : Type 0 where
  pub fine : well_formed p ≡ true
  pub numbers : AreInput input
  pub bytes : AreBytes constants
  pub places : AreCodePlaces (length (code_of p)) code
  pub globals : data_bytes p ≤ 0x800000
  pub room : data_bytes p + length constants ≤ 0x10000000
  pub stands : has_constants p ≡ true → ConstantsStand p constants

-- with n turns the system of its procedures, from its first state, does what the program means
abbrev pub KeepsUp : Program → (input constants : List ℕ) → (code : ℕ → ℕ) → ℕ → Type 0
KeepsUp p input constants code n = Keeps (block_system (code_of p) code) (least (code_of p)) (all_points (code_of p)) same_trap (first_state (data_bytes p) constants input) n (meaning p input n)

---- In any layout

-- where there are record types or strings, the bytes behind the globals are the program's own, and the number of an operation can say where each stands
pub record ConstantsStandBy (p : Program) (l : Layout) (constants : List ℕ) : Type 0 where
  pub same : constants ≡ own_constants p l data_base
  pub near : globals_room p l + length constants ≤ 0x1000000

-- a well-formed program that a layout by the trees of its types lowers, whose characters are as wide as the system's; its input; the bytes behind the
-- globals; the addresses of its code; what leaves room for what comes behind the data
pub record CanRunBy (p : Program) (packed : Bool) (l : Layout) (input constants : List ℕ) (code : ℕ → ℕ) : Type 0 where
  pub laid : IsLayout packed p.types l
  pub character : l.character ≡ char_bytes
  pub fine : well_formed p ≡ true
  pub numbers : AreInput input
  pub bytes : AreBytes constants
  pub places : AreCodePlaces (length (procedures (lowered_by l p))) code
  pub room : globals_room p l + length constants ≤ 0x10000000
  pub stands : has_constants p ≡ true → ConstantsStandBy p l constants

abbrev pub KeepsUpBy : Program → Layout → (input constants : List ℕ) → (code : ℕ → ℕ) → ℕ → Type 0
KeepsUpBy p l input constants code n =
    Keeps (block_system (procedures (lowered_by l p)) code) (least (procedures (lowered_by l p))) (all_points (procedures (lowered_by l p))) same_trap (first_state (globals_room p l) constants input) n (meaning p input n)
