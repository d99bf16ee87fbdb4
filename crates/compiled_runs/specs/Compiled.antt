-- Images of checked programs, and the traps that the machine makes of theirs.
use Rattle.std.specs.Prelude.{◌≡◌, ℕ, List, map, length, Some, if◌then◌else◌}
use Rattle.image_form.specs.declared.image.Image.{Image}
use Rattle.image_form.specs.declared.image.ProcPlace.{ProcPlace}
use Rattle.image_form.specs.Form.{IsInForm}
use Rattle.image_form.specs.Places.{place_before}
use Rattle.run_laws.specs.Runs.{InStep}
use Rattle.a64_machine.specs.State as machine
use Rattle.a64_machine.specs.Machine.{start, system}
use Rattle.block_runs.specs.Points.{AreCodePlaces}
use Rattle.block_runs.specs.States as block
use Rattle.ob_types.specs.Store.{Trap, Kind}
use Rattle.ob_types.specs.Meaning.{meaning, procedure_of}
use Rattle.ob_types.specs.declared.program.Procedure.{Procedure}
use Rattle.ob_types.specs.declared.program.Program.{Program}
use Rattle.ssa_lowered.specs.Lowered.{lowered}
use Rattle.a64_select.specs.Selected.{selected}
use Rattle.lir_core.specs.declared.flow.Flow.{Flow}
use Rattle.placed_code.specs.declared.data.ProcName.{ProcName}
use Rattle.placed_code.specs.declared.data.ImageData.{ImageData}
use Rattle.placed_code.specs.Placed.{Placed}
use Rattle.placed_code.specs.Layout.{entry}
use Rattle.placed_code.specs.Claims.{breaks_as}
use Rattle.linked_flows.specs.Allocations.{Cut, steps_of, all_allocated}
use Rattle.placed_code.specs.Results.{all_placed}
use Rattle.link_plan.specs.Linked.{linked}
use Rattle.lowered_runs.specs.Claims.{CanRun, code_of, data_bytes, constants_of}

-- a program's procedures as flows
abbrev pub flows_of : Program → List Flow
flows_of p = map selected (lowered p)

-- where the procedures of traces with results stand
abbrev pub placed_of : List Cut → List Placed
placed_of cuts = all_placed steps_of (all_allocated cuts)

---- A program's data

-- 1 where some module imports In, else 0
abbrev pub flags_of : Program → ℕ
flags_of p = if p.imports_in then 1 else 0

-- where a procedure stands in the texts
abbrev pub name_of : Procedure → ProcName
name_of q = record { «module» = q.«module»; line = q.line }

abbrev pub procedure_names : Program → List ProcName
procedure_names p = map name_of p.procedures

abbrev pub data_of : Program → ImageData
data_of p = record { flags = flags_of p; globals = data_bytes p; constants = constants_of p; names = procedure_names p }

---- Its image

-- a program's image in form: its flows are those of the cuts, which are linked with its data
pub record IsImageOf (p : Program) (cuts : List Cut) (image : Image) : Type 0 where
  pub flows : map (λ c. c.flow) cuts ≡ flows_of p
  pub is : image ≡ linked cuts (data_of p)
  pub form : IsInForm image

-- the program can run whatever the addresses of its code are
abbrev pub CanRunAnywhere : Program → (input : List ℕ) → Type 0
CanRunAnywhere p input = (code : ℕ → ℕ) → AreCodePlaces (length (code_of p)) code → CanRun p input (constants_of p) code

-- where a procedure's code begins, with its module and its line
abbrev pub place_of : Program → List Placed → ℕ → ProcPlace
place_of p ps f = record { word = entry ps f; «module» = (procedure_of p f).«module»; line = (procedure_of p f).line }

-- the last of the image's places at or before a BRK is this one
abbrev pub BreaksIn : Image → ProcPlace → machine.Trap → Type 0
BreaksIn image at (machine.Broke kind place) = place_before image.places place ≡ Some at
BreaksIn image at _ = ⊥

-- a trap of the meaning, and BRK of its kind in the words of its procedure, whose place the image tells
abbrev pub same_break : Program → List Placed → Image → Trap → machine.Trap → Type 0
same_break p ps image (Kind kind f) trap = breaks_as ps (block.Kind kind f) trap × BreaksIn image (place_of p ps f) trap
same_break p ps image _ trap = ⊥

-- the machine that runs the image is in step with the program's meaning: both end, trap and write alike, in both directions
abbrev pub Means : Program → List Cut → Image → List ℕ → Type 0
Means p cuts image input = InStep (system image) (length image.code) (same_break p (placed_of cuts) image) (start image input) (meaning p input)
