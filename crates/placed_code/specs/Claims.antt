-- What a placement of procedures must be, and what its image then does.
use Rattle.std.specs.Prelude.{◌≡◌, ℕ, suc, ◌+◌, ◌<◌, ◌≤◌, ◌^◌, List, [], ◌∷◌, drop, length, get_or, true, Some}
use Rattle.run_laws.specs.Runs.{Walk, Traps}
use Rattle.a64_instr.specs.declared.instr.Instr.{Instr}
use Rattle.a64_table.specs.Table.{InRange}
use Rattle.image_form.specs.declared.image.Image.{Image}
use Rattle.image_form.specs.declared.image.ProcPlace.{ProcPlace}
use Rattle.a64_machine.specs.State.{address_of}
use Rattle.a64_machine.specs.State as machine
use Rattle.block_runs.specs.declared.code.Code.{Code}
use Rattle.block_runs.specs.declared.code.Code.TheVariants.{Const}
use Rattle.block_runs.specs.declared.end.End.{End}
use Rattle.block_runs.specs.declared.end.End.TheVariants.{Jump}
use Rattle.block_runs.specs.Blocks.{Operation, Procedure}
use Rattle.block_runs.specs.Valid.{operation_fits, condition_fits}
use Rattle.block_runs.specs.States.{State, Stop, Kind, Fault, Point}
use Rattle.block_runs.specs.Steps.{step, block_system}
use Rattle.lir_core.specs.Lines.{slots_used}
use Rattle.lir_core.specs.Spots.{Spot}
use Rattle.placed_code.specs.declared.data.ProcName.{ProcName}
use Rattle.placed_code.specs.declared.data.ImageData.{ImageData}
use Rattle.placed_code.specs.Placed.{Copy, Placed, proc_of}
use Rattle.placed_code.specs.Words.{Where, where_is}
use Rattle.placed_code.specs.Layout.{position, proc_width, entry, code_of}

---- Placements

-- homes are different slots, and within the frame
pub record HomesFit (pr : Placed) : Type 0 where
  pub ranks : (u v j : ℕ) → pr.rank u ≡ Some j → pr.rank v ≡ Some j → u ≡ v
  pub within : (v j : ℕ) → pr.rank v ≡ Some j → j < pr.homes

-- a spot is a register or a slot of the frame
pub record Named (pr : Placed) (p : Spot) : Type 0 where
  pub at : Where
  pub is : where_is pr p ≡ Some at

abbrev pub AllNamed : Placed → List Copy → Type 0
AllNamed pr [] = Unit {0}
AllNamed pr (m ∷ ms) = Named pr m.to × Named pr m.from × AllNamed pr ms

-- each block stands in the order once, and what doesn't is no block
pub record Ordered (pr : Placed) : Type 0 where
  pub all : (b : ℕ) → b < length pr.blocks → position pr.order b < length pr.order
  pub once : (n b : ℕ) (rest : List ℕ) → drop n pr.order ≡ b ∷ rest → position pr.order b ≡ n
  pub none : length pr.order ≤ position pr.order (length pr.blocks)

-- registers in which operations read and write
abbrev pub AreRegisters : List ℕ → Type 0
AreRegisters named = (i : ℕ) → get_or named i 0 < 16

-- numbers of 64 bits alone can be made
abbrev pub IsNumber : Code → Type 0
IsNumber (Const n) = n < 2 ^ 64
IsNumber _ = Unit {0}

-- an operation of a procedure with so many argument words: how many values it reads and whether it makes one, its number, its
-- registers, and its slots for arguments
pub record OpFits (pr : Placed) (args : ℕ) (op : Operation) (named : List ℕ) : Type 0 where
  pub fits : operation_fits args op ≡ true
  pub number : IsNumber op.code
  pub registers : AreRegisters named
  pub slots : slots_used op ≤ pr.outs

pub record EndFits (end : End) (a b : ℕ) : Type 0 where
  pub a_fits : a < 16
  pub b_fits : b < 16
  pub condition : condition_fits end ≡ true

-- a jump leads to one of so many blocks
abbrev pub Lands : ℕ → End → Type 0
Lands n (Jump to args) = to < n
Lands n _ = Unit {0}

-- each word is one of the table
abbrev pub AllInRange : List Instr → Type 0
AllInRange [] = Unit {0}
AllInRange (i ∷ is) = InRange i × AllInRange is

---- What the image does

-- traps of a kind in one of so many procedures, and BRK of the same kind in the words of that procedure
abbrev pub same_trap : ℕ → (ℕ → ℕ) → (ℕ → ℕ) → Stop → machine.Trap → Type 0
same_trap count entry size (Kind n p) (machine.Broke m place) = (n ≡ m) × (p < count) × (entry p ≤ place) × (place < entry p + size p)
same_trap count entry size (Kind n p) (machine.Undefined word) = ⊥
same_trap count entry size (Kind n p) (machine.BadAddress address) = ⊥
same_trap count entry size (Kind n p) (machine.BadCall number) = ⊥
same_trap count entry size (Fault at) mine = ⊥

-- no fault comes from this state on
abbrev pub Safe : List Procedure → (ℕ → ℕ) → State → Type 0
Safe ps code s = (qs : List Point) (w : List ℕ) (t : State) → Walk (block_system ps code) s qs w t → (at : ℕ) → step ps code t ≡ Traps (Fault at) → ⊥

---- The image

-- where named procedures begin, of which the first is number p, by the words of their entries
abbrev pub places_of : (ℕ → ℕ) → ℕ → List ProcName → List ProcPlace
places_of entry p [] = []
places_of entry p (name ∷ names) = record { word = entry p; «module» = name.«module»; line = name.line } ∷ places_of entry (suc p) names

-- version 1 has no places
abbrev pub version_of : List ProcName → ℕ
version_of [] = 1
version_of (name ∷ names) = 2

-- the image of placed procedures
abbrev pub image_of : List Placed → ImageData → ℕ → Image
image_of ps extra frame = record {
  version = version_of extra.names;
  flags = extra.flags;
  code = code_of ps;
  globals = extra.globals;
  constants = extra.constants;
  frame = frame;
  places = places_of (entry ps) 0 extra.names;
}

-- where the code of procedures lies, and how many words it has
abbrev pub code_places : List Placed → ℕ → ℕ
code_places ps p = address_of (entry ps p)

abbrev pub sizes : List Placed → ℕ → ℕ
sizes ps p = proc_width p (proc_of ps p)

-- a trap of the flows, and the image's
abbrev pub breaks_as : List Placed → Stop → machine.Trap → Type 0
breaks_as ps = same_trap (length ps) (entry ps) (sizes ps)
