-- Where a run of lowered code stands, and what it has done by now.
use Rattle.std.proofs.Common.{◌≡◌, ℕ, ◌-◌, ◌<◌, ◌≤◌, List, length, Bool, true, false, slice_index, Some}
use Rattle.std.specs.Prelude.{sum, sum_by}
use Rattle.run_laws.specs.Runs.{System}
use Rattle.run_laws.specs.Turns.{Ending}
use Rattle.run_laws.specs.Turns.{State as At}
use Rattle.run_laws.proofs.Reached.{Reached, loosen}
use Rattle.run_laws.proofs.Comes.{Comes}
use Rattle.a64_memory.specs.Memory.{Area}
use Rattle.a64_memory.specs.Areas.{local_words, heap_words}
use Rattle.block_runs.specs.States.{Frame, World, State, Runs, Stop, Point}
use Rattle.block_runs.specs.Steps.{block_system}
use Rattle.block_runs.specs.Points.{least}
use Rattle.ob_types.specs.Sense.{HasSense}
use Rattle.ob_types.specs.Store.{Cell, Store, Trap, cell_of}
use Rattle.ob_sound.proofs.Typed.{Typed}
use Rattle.ssa_lowered.specs.Pieces.{Cursor}
use Rattle.object_nodes.specs.Running.{forms_of_all}
use Rattle.held_stores.specs.Places.{next, object_cells}
use Rattle.lowered_runs.specs.Words.{same_trap, Whole, Level, ground, ValueIs, Held, Later}
use Rattle.lowered_runs.proofs.Values.{Under}

-- the store's cells have the forms that their types say
abbrev pub Typing : Whole → Level → Store → Type 0
Typing w l s = Typed w.program (forms_of_all w.program l.types) s

-- what is asked for, or nothing
abbrev pub Asks : Bool → Type 0 → Type 0
Asks true T = T
Asks false T = Unit {0}

pub asks : {T : Type 0} (kept : Bool) → T → Asks kept T
asks true t = t
asks false t = tt

-- where lowering stands, as far as a run sees it
pub record Position : Type 0 where
  pub block : ℕ
  pub op : ℕ
  pub values : ℕ
  pub env : List ℕ

abbrev pub position : Cursor → Position
position c = record { block = c.block; op = c.op; values = c.values; env = c.env }

abbrev pub system : Whole → System State Stop Point
system w = block_system w.procedures w.code

abbrev pub world_of : Whole → Level → List Area → Store → World
world_of w l m s = record {
  memory = m;
  body = l.body;
  calls = 8192 - length l.sizes;
  cells = local_words - sum l.sizes;
  local = l.local;
  next = next (ground w) s.tags;
  free = heap_words - sum_by (object_cells (ground w)) s.tags;
  input = s.input;
}

abbrev pub frame_at : Level → Position → (ℕ → ℕ) → Frame
frame_at l c f = record { proc = l.proc; block = c.block; at = c.op; values = f; args = l.args }

abbrev pub runs_at : Whole → Level → Position → (ℕ → ℕ) → List Area → Store → State
runs_at w l c f m s = Runs (frame_at l c f) l.callers (world_of w l m s)

module _ (w : Whole) where
  abbrev pub Goes : {A : Type 0} → Ending Store Trap A → (A → At Store → Type 0) → Type 0
  Goes e Good = Comes HasSense (system w) (least w.procedures) w.points w.first w.turns same_trap e Good

  abbrev pub Came_to : (most g left : ℕ) → List ℕ → State → ((Point → ℕ) → ℕ) → Type 0
  Came_to most g left out at free = Reached (system w) (least w.procedures) w.points w.first w.turns most g left out at free

  module _ (l : Level) where
    -- register variables have their values
    abbrev pub Registers : List ℕ → (ℕ → ℕ) → Store → Type 0
    Registers env f s = (x : ℕ) → x < l.count → l.in_register x ≡ true → (v : Cell) → cell_of s.frames l.frame (l.cell x) ≡ Some v → ValueIs w s.tags v (f (slice_index env x))

    pub record Ready (most g : ℕ) (c : Position) (f : ℕ → ℕ) (s : At Store) (free : (Point → ℕ) → ℕ) : Type 0 where
      pub memory : List Area
      pub reached : Came_to most g s.turns s.out (runs_at w l c f memory s.store) free
      pub held : Held w l s.store memory
      pub size : length c.env ≡ l.count
      pub under : Under c.values c.env
      pub registers : Registers c.env f s.store
      pub since : Later w l l.store s.store

    pub ready_more : {most g : ℕ} {c : Position} {f : ℕ → ℕ} {s : At Store} {room : (Point → ℕ) → ℕ} (more less : ℕ) (free : (Point → ℕ) → ℕ) → Ready most g c f s room → most ≤ more → less ≤ g → ((h : Point → ℕ) → free h ≤ room h) → Ready more less c f s free
    ready_more {most} {g} {c} {f} {s} {room} more less free r le few fits = record {
      memory = r.memory;
      reached = loosen (system w) (least w.procedures) w.points w.first w.turns more less free r.reached le few fits;
      held = r.held;
      size = r.size;
      under = r.under;
      registers = r.registers;
      since = r.since;
    }
