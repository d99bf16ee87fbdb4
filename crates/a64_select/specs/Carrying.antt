-- What a flow's points are to its procedure's: each point itself, and behind a test the new nodes on its edges.
use Rattle.std.specs.Prelude.{◌≡◌, ℕ, ◌+◌, ◌<◌, List, [], ◌∷◌, ◌++◌, map, take, drop, length, Bool}
use Rattle.run_laws.specs.Layers.{CarriesBy, places_from}
use Rattle.block_runs.specs.Blocks.{Operation, CodeBlock, Procedure, block_at, procedure_of}
use Rattle.block_runs.specs.States.{Frame, State, Starts, Enters, Runs, Works, Stop, Point, Begin, Entry, In, At}
use Rattle.block_runs.specs.Steps.{block_system}
use Rattle.block_runs.specs.Points.{least}
use Rattle.ssa_core.specs.declared.procedure.Proc.{Proc}
use Rattle.ssa_core.specs.Procedures.{procedures}
use Rattle.lir_core.specs.Flows.{procedures as flow_procedures}
use Rattle.a64_select.specs.Selected.{joins_of, split_targets, selected}

-- the targets of all edges that are split, by source: new node number n + i leads to the i-th, where there are n blocks
abbrev pub new_targets : List Bool → List CodeBlock → List ℕ
new_targets joins [] = []
new_targets joins (bl ∷ bls) = split_targets joins bl.end ++ new_targets joins bls

-- the number of the first new node of a block
abbrev pub first_new : List CodeBlock → ℕ → ℕ
first_new bls b = length bls + length (new_targets (joins_of bls) (take b bls))

-- the points of a block's new nodes
abbrev pub new_points : ℕ → List CodeBlock → ℕ → List Point
new_points p bls b = map (λ n. In p n 0) (places_from (first_new bls b) (length (split_targets (joins_of bls) (block_at bls b).end)))

-- where no operation is left, at the end
abbrev pub at_end : List Operation → List Point → List Point
at_end [] points = points
at_end (op ∷ ops) points = []

abbrev pub flow_points : List Procedure → Point → List Point
flow_points ps (Begin j) = Begin j ∷ []
flow_points ps (Entry p) = Entry p ∷ []
flow_points ps (In p b i) = let bls = (procedure_of ps p).blocks in In p b i ∷ at_end (drop i (block_at bls b).ops) (new_points p bls b)
flow_points ps (At part) = At part ∷ []

-- frames stand in blocks that are there
abbrev pub Stands : List Procedure → Frame → Type 0
Stands ps f = f.block < length (procedure_of ps f.proc).blocks

abbrev pub AllStand : List Procedure → List Frame → Type 0
AllStand ps [] = Unit {0}
AllStand ps (f ∷ fs) = Stands ps f × AllStand ps fs

abbrev pub Inside : List Procedure → State → Type 0
Inside ps (Starts w) = Unit {0}
Inside ps (Enters p args fs w) = (p < length ps) × AllStand ps fs
Inside ps (Runs f fs w) = Stands ps f × AllStand ps fs
Inside ps (Works work f fs w) = Stands ps f × AllStand ps fs

-- a flow's state is its procedure's, in which all frames stand in the procedure's blocks
pub record SameState (ps : List Procedure) (s a : State) : Type 0 where
  pub same : s ≡ a
  pub inside : Inside ps s

-- the flows of procedures carry out each of their steps, whatever the addresses of code are
abbrev pub FlowsCarry : List Proc → (code : ℕ → ℕ) → Type 0
FlowsCarry ps code =
    let above = procedures ps in
    let below = flow_procedures (map selected ps) in
    CarriesBy (block_system above code) (block_system below code) (least above) (least below) (flow_points above) (SameState above) (λ (u v : Stop). u ≡ v)
