-- Runs in which values contain anything before they are made, and states that differ in nothing that is wanted.
use Rattle.std.specs.Prelude.{◌≡◌, ℕ, ◌≤◌, ◌==◌, ◌&&◌, false, nat_lt, List, [], ◌∷◌, drop, length, if◌then◌else◌}
use Rattle.run_laws.specs.Runs.{Step, Moves, Traps, System, run}
use Rattle.run_laws.specs.Layers.{CarriesBy}
use Rattle.block_runs.specs.Blocks.{Procedure, block_of, procedure_of}
use Rattle.block_runs.specs.States.{Frame, World, Work, State, Starts, Enters, Runs, Works, Stop, Kind, Point, point}
use Rattle.block_runs.specs.Steps.{set_all, taken, step, block_system}
use Rattle.block_runs.specs.Points.{least}
use Rattle.block_runs.specs.Live.{IsWanted}
use Rattle.ssa_core.specs.declared.procedure.Proc.{Proc}

---- The system

-- at an entry, values that aren't argument words have these contents
abbrev pub frame_with : (ℕ → ℕ) → Procedure → ℕ → List ℕ → Frame
frame_with contents pr p args = record { proc = p; block = 0; at = 0; values = set_all (block_of pr 0).params args contents; args = args }

abbrev pub enter_with : (ℕ → ℕ) → List Procedure → ℕ → List ℕ → List Frame → World → Step State Stop
enter_with contents ps p args fs w =
    let pr = procedure_of ps p in
    if pr.counted && w.calls == 0 then Traps (Kind 8 p)
    else (if nat_lt w.cells pr.cells then Traps (Kind 9 p)
    else Moves [] (Runs (frame_with contents pr p args) fs (taken pr w)))

-- a step, where the contents may be others at each entry
abbrev pub step_with : (State → ℕ → ℕ) → List Procedure → (ℕ → ℕ) → State → Step State Stop
step_with contents ps code (Starts w) = step ps code (Starts w)
step_with contents ps code (Enters p args fs w) = enter_with (contents (Enters p args fs w)) ps p args fs w
step_with contents ps code (Runs f fs w) = step ps code (Runs f fs w)
step_with contents ps code (Works work f fs w) = step ps code (Works work f fs w)

abbrev pub system_with : (State → ℕ → ℕ) → List Procedure → (ℕ → ℕ) → System State Stop Point
system_with contents ps code = record { step = step_with contents ps code; at = point }

-- a module's body takes no argument words
abbrev pub IsBare : Proc → Type 0
IsBare p = p.counted ≡ false → p.args ≡ 0

---- States that differ in nothing that is wanted

-- a value is wanted where a frame stands
abbrev pub IsWantedAt : List Procedure → Frame → ℕ → Type 0
IsWantedAt ps f v = let pr = procedure_of ps f.proc in IsWanted pr.blocks (block_of pr f.block) (drop f.at (block_of pr f.block).ops) v

-- contents are the frame's, as far as they are wanted
abbrev pub AgreeOn : List Procedure → Frame → (ℕ → ℕ) → Type 0
AgreeOn ps f values = (v : ℕ) → IsWantedAt ps f v → f.values v ≡ values v

-- the calls that wait
pub data AgreeAll (ps : List Procedure) : List Frame → List Frame → Type 0 where
  NoCall : AgreeAll ps [] []
  OneMore : (f : Frame) (values : ℕ → ℕ) (fs gs : List Frame) → AgreeOn ps f values → AgreeAll ps fs gs → AgreeAll ps (f ∷ fs) (record f { values = values } ∷ gs)

-- there is an argument word for each parameter of the first block
abbrev pub HasArguments : List Procedure → ℕ → List ℕ → Type 0
HasArguments ps p args = length (block_of (procedure_of ps p) 0).params ≤ length args

pub data Agree (ps : List Procedure) : State → State → Type 0 where
  BetweenBodies : (w : World) → Agree ps (Starts w) (Starts w)
  AtEntry : (p : ℕ) (args : List ℕ) (fs gs : List Frame) (w : World) → HasArguments ps p args → AgreeAll ps fs gs → Agree ps (Enters p args fs w) (Enters p args gs w)
  InCall : (f : Frame) (values : ℕ → ℕ) (fs gs : List Frame) (w : World) → AgreeOn ps f values → AgreeAll ps fs gs → Agree ps (Runs f fs w) (Runs (record f { values = values }) gs w)
  InRoutine : (work : Work) (f : Frame) (values : ℕ → ℕ) (fs gs : List Frame) (w : World) → AgreeOn ps f values → AgreeAll ps fs gs → Agree ps (Works work f fs w) (Works work (record f { values = values }) gs w)

---- Doing the same

-- runs of any number of steps come out the same, from between the bodies on
abbrev pub SameRuns : (State → ℕ → ℕ) → List Procedure → (ℕ → ℕ) → Type 0
SameRuns contents ps code = (n : ℕ) (w : World) → run (step_with contents ps code) n (Starts w) [] ≡ run (step ps code) n (Starts w) []

-- each step is carried out by one at the same point, with the same writing or the same halt, between states that agree
abbrev pub SameSteps : (State → ℕ → ℕ) → List Procedure → (ℕ → ℕ) → Type 0
SameSteps contents ps code = CarriesBy (block_system ps code) (system_with contents ps code) (least ps) (least ps) (λ p. p ∷ []) (Agree ps) (λ (u v : Stop). u ≡ v)
