-- The image of flows in traces with sound results, and what it does.
use Rattle.std.specs.Prelude.{◌≡◌, ◌∷◌, ℕ, ◌<◌, ◌≤◌, ◌^◌, ◌%◌, max, List, [], map, drop, length, false, true}
use Rattle.std.specs.List.{list_all}
use Rattle.run_laws.specs.Runs.{Outcome, Keeps, InStep}
use Rattle.run_laws.specs.Layers.{Through}
use Rattle.image_form.specs.declared.image.Image.{Image}
use Rattle.a64_machine.specs.Machine.{start, system}
use Rattle.block_runs.specs.Blocks.{Operation, block_at}
use Rattle.block_runs.specs.Steps.{block_system}
use Rattle.block_runs.specs.Points.{least, all_points}
use Rattle.lir_core.specs.declared.flow.Flow.{Flow}
use Rattle.lir_core.specs.declared.places.TraceOut.{TraceOut}
use Rattle.lir_core.specs.Flows.{code_nodes}
use Rattle.trace_build.specs.Cuts.{lists_of, AllTraces}
use Rattle.boundary_resolve.specs.declared.code_line.CodeLine.{CodeLine}
use Rattle.boundary_resolve.specs.Placing.{placed_of}
use Rattle.boundary_resolve.specs.Edges.{AreSound}
use Rattle.placed_code.specs.declared.data.ProcName.{ProcName}
use Rattle.placed_code.specs.declared.data.ImageData.{ImageData}
use Rattle.placed_code.specs.Placed.{Placed}
use Rattle.placed_code.specs.Words.{frame_of}
use Rattle.placed_code.specs.Claims.{IsNumber, image_of, code_places, breaks_as}
use Rattle.placed_code.specs.Results.{all_placed, procedures_of, Reason, same_reason, begins_with}
use Rattle.linked_flows.specs.Allocations.{Cut, steps_of, all_allocated}
use Rattle.link_blocks.specs.Fits.{numbers_fit}
use Rattle.link_blocks.specs.Laid.{Fits}
use Rattle.link_blocks.specs.Plans.{plain}
use Rattle.procedure_pieces.specs.Pieces.{Piece, piece_of}

-- what an image has besides its code is within its form
pub record DataFits (extra : ImageData) : Type 0 where
  pub one_flag : extra.flags < 2
  pub few_globals : extra.globals ≤ 8388608
  pub few_constants : length extra.constants ≤ 2097152
  pub few_names : length extra.names ≤ 4096
  pub whole_globals : extra.globals % 8 ≡ 0
  pub whole_constants : length extra.constants % 8 ≡ 0

-- where there are names, each of so many procedures has one
abbrev pub NameAllOrNone : List ProcName → ℕ → Type 0
NameAllOrNone names n = 0 < length names → length names ≡ n

-- how many bytes a frame has at most in an image that names no procedure
abbrev pub small_frame : ℕ
small_frame = 32768

-- no procedure is named, and the frame is past what such an image may have
pub record IsUnnamedAndFar (extra : ImageData) (frame : ℕ) : Type 0 where
  pub unnamed : extra.names ≡ []
  pub far : small_frame < frame

-- sound results over k registers for a flow's paths, which have each node once; numbers that can be made; and a module's body
-- takes no arguments
pub record IsAllocated (k : ℕ) (c : Cut) : Type 0 where
  pub sound : AreSound k c.flow c.traces c.outs
  pub paths : AllTraces c.flow (lists_of c.traces)
  pub numbers : (b i : ℕ) (op : Operation) (rest : List Operation) → drop i (block_at (code_nodes c.flow.nodes) b).ops ≡ op ∷ rest → IsNumber op.code
  pub local_data : (c.flow.local_cells < 2 ^ 64) × (c.flow.local_bytes < 2 ^ 24)
  pub body : c.flow.counted ≡ false → c.flow.args ≡ 0

-- results that linking can take
abbrev pub AllAllocated : ℕ → List Cut → Type 0
AllAllocated k cuts = (q : ℕ) (c : Cut) (rest : List Cut) → drop q cuts ≡ c ∷ rest → IsAllocated k c

-- flows, their lines in code order and their results are those of cuts
pub record AreCuts (k : ℕ) (flows : List Flow) (parts : List (List CodeLine)) (outs : List (List TraceOut)) (cuts : List Cut) : Type 0 where
  pub flows_are : flows ≡ map (λ c. c.flow) cuts
  pub parts_are : parts ≡ map (λ c. placed_of c.flow c.traces c.outs) cuts
  pub outs_are : outs ≡ map (λ c. c.outs) cuts
  pub few : k ≤ 16
  pub each : AllAllocated k cuts

-- the plans of cuts
abbrev pub plans_of : List Cut → List Placed
plans_of cuts = map plain (all_placed steps_of (all_allocated cuts))

-- the pieces of cuts
abbrev pub pieces_of : List Cut → List Piece
pieces_of cuts = map piece_of (all_placed steps_of (all_allocated cuts))

-- pieces are those of cuts with sound results, whose numbers fit instructions
pub record ArePieces (k : ℕ) (pieces : List Piece) (cuts : List Cut) : Type 0 where
  pub pieces_are : pieces ≡ pieces_of cuts
  pub numbers : list_all (λ f. numbers_fit f) (map (λ c. c.flow) cuts) ≡ true
  pub few : k ≤ 16
  pub each : AllAllocated k cuts

-- numbers, registers and frames fit instructions
abbrev pub AreSmall : List Cut → Type 0
AreSmall cuts = (q : ℕ) (c : Cut) (rest : List Cut) → drop q cuts ≡ c ∷ rest → Fits c

abbrev pub greatest_frame : List Placed → ℕ
greatest_frame [] = 0
greatest_frame (p ∷ ps) = max (frame_of p) (greatest_frame ps)

-- the greatest frame of pieces
abbrev pub greatest_in : List Piece → ℕ
greatest_in [] = 0
greatest_in (piece ∷ pieces) = max piece.frame (greatest_in pieces)

abbrev pub frame_of_cuts : List Cut → ℕ
frame_of_cuts cuts = greatest_frame (all_placed steps_of (all_allocated cuts))

-- the defined image, with the greatest of the frames
abbrev pub linked : List Cut → ImageData → Image
linked cuts extra = image_of (all_placed steps_of (all_allocated cuts)) extra (frame_of_cuts cuts)

-- the machine that runs the image is in step with each meaning that the flows, taken with the image's code addresses, keep up with
abbrev pub Runs : Image → List Cut → ImageData → List ℕ → Type 0
Runs image cuts extra input =
    let ps = all_placed steps_of (all_allocated cuts) in
    let fs = procedures_of (all_allocated cuts) in
    (meaning : ℕ → Outcome Reason)
    → ((n : ℕ) → Keeps (block_system fs (code_places ps)) (least fs) (all_points fs) same_reason (begins_with extra input) n (meaning n))
    → InStep (system image) (length image.code) (Through same_reason (breaks_as ps)) (start image input) meaning
