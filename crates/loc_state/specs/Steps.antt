-- The steps of a forward walk.
use Rattle.std.specs.Prelude.{slice_set, ℕ, suc, ◌+◌, cond, List, [], ◌∷◌, ◌++◌, length, map, Option, Some, None}
use Rattle.block_runs.specs.Blocks.{Operation}
use Rattle.block_runs.specs.Live.{has}
use Rattle.lir_core.specs.declared.places.Places.{Places}
use Rattle.lir_core.specs.declared.places.Line.{Line}
use Rattle.lir_core.specs.declared.places.Line.TheVariants.{Store, Load}
use Rattle.lir_core.specs.declared.places.Line.TheVariants.{Lir as Does}
use Rattle.lir_core.specs.Spots.{get}
use Rattle.lir_core.specs.Walks.{without}
use Rattle.lir_core.specs.Sound.{no_places}
use Rattle.loc_state.specs.declared.part.Part.{Part}
use Rattle.loc_state.specs.declared.forward.Forward.{Forward}
use Rattle.loc_state.specs.Registers.{register_of}
use Rattle.loc_state.specs.Homed.{inserted, all_inserted, others}
use Rattle.loc_state.specs.Lines.{place_of, call_lines}

-- where the values are now
abbrev pub places : Part → Places
places t = record { regs = t.regs; homed = t.homed }

abbrev pub begun : Places → Part
begun start = record { start = start; regs = start.regs; homed = all_inserted start.homed []; lines = []; named = []; since = 0 }

---- Uses

-- the next use's register is named; a register that is given takes the value from its home
abbrev pub brought : ℕ → Option ℕ → Part → Part
brought v None t = record t { named = t.named ++ register_of v t.regs ∷ [] }
brought v (Some r) t = record t { regs = slice_set t.regs r (Some v); lines = t.lines ++ Load r v ∷ []; named = t.named ++ r ∷ [] }

-- the homed values and the lines once a register's value is stored, where it isn't homed
abbrev pub saved : Option ℕ → List ℕ → List ℕ
saved None homed = homed
saved (Some v) homed = inserted v homed

abbrev pub saving : ℕ → Option ℕ → List ℕ → List Line → List Line
saving r None homed lines = lines
saving r (Some v) homed lines = cond (has homed v) lines (lines ++ Store r v ∷ [])

-- a register is emptied, its value stored where it isn't homed
abbrev pub evicted : ℕ → Part → Part
evicted r t = record t { regs = slice_set t.regs r None; homed = saved (get t.regs r) t.homed; lines = saving r (get t.regs r) t.homed t.lines }

-- a value loses its places
abbrev pub dropped : ℕ → Part → Part
dropped v t = record t { regs = map (without v) t.regs; homed = others v t.homed }

---- Operations

-- an operation that isn't a call is done, and its definition is in a register that is given
abbrev pub defines : ℕ → Option ℕ → Option ℕ → Part → Part
defines i (Some v) (Some r) t = record t { regs = slice_set t.regs r (Some v); lines = t.lines ++ Does i ∷ []; named = t.named ++ r ∷ []; since = length t.named + 1 }
defines i _ _ t = record t { lines = t.lines ++ Does i ∷ []; since = length t.named }

-- a register's value, if it is to be kept
abbrev pub only : List ℕ → Option ℕ → Option ℕ
only keep None = None
only keep (Some v) = cond (has keep v) (Some v) None

-- from register r on, values to be kept are stored where they aren't homed
abbrev pub keeps_one : List ℕ → ℕ → Option ℕ → Part → Part
keeps_one keep r o t = record t { homed = saved (only keep o) t.homed; lines = saving r (only keep o) t.homed t.lines }

abbrev pub keeps_all : List ℕ → ℕ → List (Option ℕ) → Part → Part
keeps_all keep r [] t = t
keeps_all keep r (o ∷ os) t = keeps_all keep (suc r) os (keeps_one keep r o t)

abbrev pub with_result : Option ℕ → List (Option ℕ) → List (Option ℕ)
with_result None regs = regs
with_result (Some v) regs = slice_set regs 0 (Some v)

-- the lines of a call, all registers emptied, the result in X0
abbrev pub called_from : ℕ → Operation → Part → Part
called_from i op t = record t { regs = with_result op.def (map (λ x. None) t.regs); lines = (t.lines ++ call_lines (place_of t.regs) op) ++ Does i ∷ []; since = length t.named }

-- a call: first what is to be kept of the registers is stored, lowest register first
abbrev pub called : ℕ → Operation → List ℕ → Part → Part
called i op keep t = called_from i op (keeps_all keep 0 t.regs t)

---- Nodes

abbrev pub start_of : Option Places → Places
start_of None = no_places
start_of (Some q) = q

-- a node ends, and the next begins with its start places
abbrev pub closed : Option Places → Forward → Forward
closed next f = record {
  starts = f.starts ++ f.part.start ∷ [];
  ends = f.ends ++ places f.part ∷ [];
  lines = f.lines ++ f.part.lines ∷ [];
  regs = f.regs ++ f.part.named ∷ [];
  part = begun (start_of next);
}

abbrev pub started : Places → Forward
started start = record { starts = []; ends = []; lines = []; regs = []; part = begun start }

-- a step in the node that is being walked
abbrev pub in_part : (Part → Part) → Forward → Forward
in_part step f = record f { part = step f.part }
