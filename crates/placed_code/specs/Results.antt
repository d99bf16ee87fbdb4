-- Flows with the results of allocators and the steps of edges, as placed procedures, and when such a result is sound.
use Rattle.std.specs.Prelude.{◌≡◌, ℕ, ◌+◌, ◌<◌, ◌≤◌, ◌^◌, cond, List, [], ◌∷◌, ◌++◌, map, drop, length, get_or, true, false, Option, Some, None, ◌==◌, nat_lt}
use Rattle.run_laws.specs.Runs.{Outcome, Keeps, InStep}
use Rattle.run_laws.specs.Layers.{Through}
use Rattle.a64_memory.specs.Memory.{AreBytes}
use Rattle.image_form.specs.Form.{IsInForm}
use Rattle.a64_machine.specs.Machine.{start, system}
use Rattle.block_runs.specs.States.{State, Stop, Kind, Fault}
use Rattle.block_runs.specs.First.{first_state}
use Rattle.block_runs.specs.Steps.{block_system}
use Rattle.block_runs.specs.Points.{least, all_points}
use Rattle.block_runs.specs.declared.end.End.{End}
use Rattle.block_runs.specs.declared.end.End.TheVariants.{Jump}
use Rattle.block_runs.specs.Blocks.{Operation, CodeBlock, Procedure, block_at, successors}
use Rattle.block_runs.specs.Live.{has}
use Rattle.lir_core.specs.declared.flow.Flow.{Flow}
use Rattle.lir_core.specs.declared.places.Move.{Move}
use Rattle.lir_core.specs.declared.places.Places.{Places}
use Rattle.lir_core.specs.declared.places.Line.{Line}
use Rattle.lir_core.specs.declared.places.Line.TheVariants.{Store, Load, Moves, Result, Target}
use Rattle.lir_core.specs.declared.places.Line.TheVariants.{Lir as Does}
use Rattle.lir_core.specs.Flows.{code_nodes, IsValidFlow}
use Rattle.lir_core.specs.Flows as flows
use Rattle.lir_core.specs.Spots.{Spot, reg, home, out, target, saved, same, spot, source, view_of, Holds, argument_of}
use Rattle.lir_core.specs.Lines.{names, Room, AreDistinct, slots_of}
use Rattle.lir_core.specs.Sound.{IsSoundNode, room_of, no_places}
use Rattle.placed_code.specs.declared.data.ImageData.{ImageData}
use Rattle.placed_code.specs.Placed.{Copy, Cell, Block, Placed, all_copied}
use Rattle.placed_code.specs.Words.{frame_of}
use Rattle.placed_code.specs.Layout.{position, all_words}
use Rattle.placed_code.specs.Claims.{AllInRange, IsNumber, Ordered, image_of, code_places, breaks_as}

-- what allocators and edges give for a node: where values stand before and behind it, its lines with the registers named for its
-- operations and its end, the steps of the edge from a test before it, and the steps of its jump's edge behind it
pub record Part : Type 0 where
  pub start : Places
  pub end : Places
  pub lines : List Line
  pub named : List ℕ
  pub into : List Copy
  pub leaving : List Copy

-- a flow with the steps of the entry's edge, a part for each node, and the numbers of its nodes in the order of their code
pub record Allocated : Type 0 where
  pub flow : Flow
  pub first : List Copy
  pub parts : List Part
  pub order : List ℕ

---- Lines as copies; `steps` says what simultaneous moves become

abbrev pub line_copies : (List Move → List Copy) → Line → List Copy
line_copies steps (Does i) = []
line_copies steps (Store r v) = record { to = home v; from = reg r } ∷ []
line_copies steps (Load r v) = record { to = reg r; from = home v } ∷ []
line_copies steps (Moves ms) = steps ms
line_copies steps (Result r) = record { to = reg r; from = reg 0 } ∷ []
line_copies steps (Target from) = record { to = target; from = spot from } ∷ []

-- the copies before the next operation, and the lines behind it
abbrev pub copies_before : (List Move → List Copy) → List Line → List Copy
copies_before steps [] = []
copies_before steps (Does i ∷ ls) = []
copies_before steps (Store r v ∷ ls) = line_copies steps (Store r v) ++ copies_before steps ls
copies_before steps (Load r v ∷ ls) = line_copies steps (Load r v) ++ copies_before steps ls
copies_before steps (Moves ms ∷ ls) = line_copies steps (Moves ms) ++ copies_before steps ls
copies_before steps (Result r ∷ ls) = line_copies steps (Result r) ++ copies_before steps ls
copies_before steps (Target from ∷ ls) = line_copies steps (Target from) ++ copies_before steps ls

abbrev pub lines_behind : List Line → List Line
lines_behind [] = []
lines_behind (Does i ∷ ls) = ls
lines_behind (Store r v ∷ ls) = lines_behind ls
lines_behind (Load r v ∷ ls) = lines_behind ls
lines_behind (Moves ms ∷ ls) = lines_behind ls
lines_behind (Result r ∷ ls) = lines_behind ls
lines_behind (Target from ∷ ls) = lines_behind ls

-- the cells of operations, with some copies in front, and the copies and registers behind them
abbrev pub cells_from : (List Move → List Copy) → List Copy → List Operation → List ℕ → List Line → List Cell
cells_from steps front [] named lines = []
cells_from steps front (op ∷ ops) named lines = record { copies = front ++ copies_before steps lines; op = op; named = named } ∷ cells_from steps [] ops (drop (names op) named) (lines_behind lines)

abbrev pub last_copies : (List Move → List Copy) → List Copy → List Operation → List Line → List Copy
last_copies steps front [] lines = front ++ copies_before steps lines
last_copies steps front (op ∷ ops) lines = last_copies steps [] ops (lines_behind lines)

abbrev pub last_named : List Operation → List ℕ → List ℕ
last_named [] named = named
last_named (op ∷ ops) named = last_named ops (drop (names op) named)

-- the steps of a jump's edge; other ends have theirs in their targets
abbrev pub left_by : End → List Copy → List Copy
left_by (Jump to args) copies = copies
left_by _ copies = []

abbrev pub placed_block : (List Move → List Copy) → CodeBlock → Part → Block
placed_block steps bl part = record {
  params = bl.params;
  body = cells_from steps part.into bl.ops part.named part.lines;
  copies = last_copies steps part.into bl.ops part.lines ++ left_by bl.end part.leaving;
  end = bl.end;
  a = get_or (last_named bl.ops part.named) 0 0;
  b = get_or (last_named bl.ops part.named) 1 0;
}

abbrev pub no_part : Part
no_part = record { start = no_places; end = no_places; lines = []; named = []; into = []; leaving = [] }

abbrev pub part_of : List Part → ℕ → Part
part_of parts b = get_or parts b no_part

-- the blocks of a procedure, of which the first is number b
abbrev pub placed_blocks : (List Move → List Copy) → ℕ → List CodeBlock → List Part → List Block
placed_blocks steps b [] parts = []
placed_blocks steps b (bl ∷ bls) parts = placed_block steps bl (part_of parts b) ∷ placed_blocks steps (b + 1) bls parts

---- Homes: each value that a copy stores or loads has one; they stand in the order of the values

-- a number in its place among numbers that rise
abbrev pub insert : ℕ → List ℕ → List ℕ
insert v [] = v ∷ []
insert v (x ∷ xs) = cond (v == x) (x ∷ xs) (cond (nat_lt v x) (v ∷ (x ∷ xs)) (x ∷ insert v xs))

abbrev pub with_home : Spot → List ℕ → List ℕ
with_home (home v) vs = insert v vs
with_home _ vs = vs

-- with the homes that copies, cells and blocks store or load
abbrev pub with_copies : List Copy → List ℕ → List ℕ
with_copies [] vs = vs
with_copies (m ∷ ms) vs = with_home m.to (with_home m.from (with_copies ms vs))

abbrev pub with_cells : List Cell → List ℕ → List ℕ
with_cells [] vs = vs
with_cells (cell ∷ cells) vs = with_copies cell.copies (with_cells cells vs)

abbrev pub with_blocks : List Block → List ℕ → List ℕ
with_blocks [] vs = vs
with_blocks (bl ∷ bls) vs = with_cells bl.body (with_copies bl.copies (with_blocks bls vs))

-- the values with a home, rising
abbrev pub homes_of : List Copy → List Block → List ℕ
homes_of first blocks = with_copies first (with_blocks blocks [])

-- the rank of a value among those with a home
abbrev pub rank_in : List ℕ → ℕ → Option ℕ
rank_in vs v = cond (has vs v) (Some (position vs v)) None

abbrev pub placed : (List Move → List Copy) → Allocated → Placed
placed steps r =
    let bls = code_nodes r.flow.nodes in
    let blocks = placed_blocks steps 0 bls r.parts in
    let homes = homes_of r.first blocks in
    record {
      counted = r.flow.counted;
      cells = r.flow.local_cells;
      bytes = r.flow.local_bytes;
      outs = slots_of bls;
      homes = length homes;
      rank = rank_in homes;
      copies = r.first;
      blocks = blocks;
      order = r.order;
    }

abbrev pub all_placed : (List Move → List Copy) → List Allocated → List Placed
all_placed steps rs = map (placed steps) rs

abbrev pub flow_of : Allocated → Flow
flow_of r = r.flow

-- what runs
abbrev pub procedures_of : List Allocated → List Procedure
procedures_of rs = flows.procedures (map flow_of rs)

---- When a result is sound

-- a register or an argument's slot that there is
abbrev pub SpotFits : Room → Spot → Type 0
SpotFits room (reg r) = r < room.regs
SpotFits room (out s) = s < room.slots
SpotFits room _ = Unit {0}

abbrev pub CopiesFit : Room → List Copy → Type 0
CopiesFit room [] = Unit {0}
CopiesFit room (m ∷ ms) = SpotFits room m.to × SpotFits room m.from × CopiesFit room ms

abbrev pub MovesFit : Room → List Move → Type 0
MovesFit room [] = Unit {0}
MovesFit room (m ∷ ms) = SpotFits room (spot m.to) × SpotFits room (spot m.from) × MovesFit room ms

-- copies one after the other do what distinct moves do all at once, but for X16, and name no register or slot that these don't
pub record IsSequence (steps : List Move → List Copy) : Type 0 where
  pub moves : (ms : List Move) → AreDistinct ms → (content : Spot → ℕ) (p : Spot) → same p saved ≡ false → all_copied (steps ms) content p ≡ content (source ms p)
  pub fit : (room : Room) (ms : List Move) → MovesFit room ms → CopiesFit room (steps ms)

-- copies take places that hold before an edge to places that hold behind it
abbrev pub TakeOver : Places → Places → (ℕ → ℕ) → List Copy → Type 0
TakeOver before after argument copies = (values : ℕ → ℕ) (content : Spot → ℕ) → Holds values (view_of before) content → Holds (λ v. values (argument v)) (view_of after) (all_copied copies content)

-- what a value behind an edge was before: of a jump, a parameter was its argument
abbrev pub carried_by : End → List ℕ → ℕ → ℕ
carried_by (Jump to args) params v = argument_of params args v
carried_by _ params v = v

-- at the entry the first block's parameters stand in X0 and so on
abbrev pub entry_places : List CodeBlock → Places
entry_places bls = record { regs = map Some (block_at bls 0).params; homed = [] }

-- k registers, and a frame of at most so many bytes
pub record IsSoundResult (k frame : ℕ) (steps : List Move → List Copy) (r : Allocated) : Type 0 where
  pub valid : IsValidFlow r.flow
  pub numbers : (b i : ℕ) (op : Operation) (rest : List Operation) → drop i (block_at (code_nodes r.flow.nodes) b).ops ≡ op ∷ rest → IsNumber op.code
  pub local_data : (r.flow.local_cells < 2 ^ 64) × (r.flow.local_bytes < 2 ^ 24)
  pub body : r.flow.counted ≡ false → r.flow.args ≡ 0
  pub ordered : Ordered (placed steps r)
  pub fits : frame_of (placed steps r) ≤ frame
  pub nodes : (b : ℕ) → b < length r.flow.nodes → IsSoundNode (room_of k r.flow) (code_nodes r.flow.nodes) b (part_of r.parts b).start (part_of r.parts b).lines (part_of r.parts b).named (part_of r.parts b).end
  pub steps_fit : CopiesFit (room_of k r.flow) r.first × ((b : ℕ) → CopiesFit (room_of k r.flow) (part_of r.parts b).into × CopiesFit (room_of k r.flow) (part_of r.parts b).leaving)
  pub enters : TakeOver (entry_places (code_nodes r.flow.nodes)) (part_of r.parts 0).start (λ v. v) (r.first ++ (part_of r.parts 0).into)
  pub edges : (b to : ℕ) → b < length r.flow.nodes → has (successors (block_at (code_nodes r.flow.nodes) b).end) to ≡ true
      → TakeOver (part_of r.parts b).end (part_of r.parts to).start (carried_by (block_at (code_nodes r.flow.nodes) b).end (block_at (code_nodes r.flow.nodes) to).params) (left_by (block_at (code_nodes r.flow.nodes) b).end (part_of r.parts b).leaving ++ (part_of r.parts to).into)

abbrev pub AreSoundResults : ℕ → ℕ → (List Move → List Copy) → List Allocated → Type 0
AreSoundResults k frame steps rs = (q : ℕ) (r : Allocated) (rest : List Allocated) → drop q rs ≡ r ∷ rest → IsSoundResult k frame steps r

---- What the image of sound results does

-- why a meaning stops: a trap of a kind in a procedure, and never a fault
pub record Reason : Type 0 where
  pub kind : ℕ
  pub proc : ℕ

abbrev pub same_reason : Reason → Stop → Type 0
same_reason s (Kind kind proc) = (s.kind ≡ kind) × (s.proc ≡ proc)
same_reason s (Fault at) = ⊥

-- an image of results: it is in form, its constants are bytes, and each of its words is one of the table
pub record IsImageOf (steps : List Move → List Copy) (rs : List Allocated) (extra : ImageData) (frame : ℕ) : Type 0 where
  pub form : IsInForm (image_of (all_placed steps rs) extra frame)
  pub bytes : AreBytes extra.constants
  pub in_table : AllInRange (all_words (all_placed steps rs))

-- the flows' state at the start, by the image's data
abbrev pub begins_with : ImageData → List ℕ → State
begins_with extra input = first_state extra.globals extra.constants input

-- the machine that runs the image is in step with each meaning that the flows, taken with the image's code addresses, keep up with
abbrev pub Agrees : (List Move → List Copy) → List Allocated → ImageData → ℕ → List ℕ → Type 0
Agrees steps rs extra frame input =
    let ps = all_placed steps rs in
    let fs = procedures_of rs in
    let image = image_of ps extra frame in
    (meaning : ℕ → Outcome Reason)
    → ((n : ℕ) → Keeps (block_system fs (code_places ps)) (least fs) (all_points fs) same_reason (begins_with extra input) n (meaning n))
    → InStep (system image) (length image.code) (Through same_reason (breaks_as ps)) (start image input) meaning
