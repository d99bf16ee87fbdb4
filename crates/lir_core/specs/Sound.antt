-- When the result of an allocator is sound: whatever numbers values have, and whatever operations do.
use Rattle.std.specs.Prelude.{◌≡◌, ◌⊎◌, ℕ, suc, ◌<◌, ◌≤◌, Bool, true, List, [], ◌∷◌, length, map, get_or, drop, Option, Some, None, slice_get}
use Rattle.block_runs.specs.Blocks.{Operation, CodeBlock, block_at, end_uses}
use Rattle.block_runs.specs.Live.{has, Live, LiveBehind, IsWanted}
use Rattle.block_runs.specs.Steps.{define}
use Rattle.block_runs.specs.Valid.{is_call}
use Rattle.lir_core.specs.declared.flow.Flow.{Flow}
use Rattle.lir_core.specs.declared.flow.Trace.{Trace}
use Rattle.lir_core.specs.declared.places.Places.{Places}
use Rattle.lir_core.specs.declared.places.Line.{Line}
use Rattle.lir_core.specs.declared.places.Line.TheVariants.{Store, Load, Moves, Result, Target}
use Rattle.lir_core.specs.declared.places.Line.TheVariants.{Lir as Does}
use Rattle.lir_core.specs.declared.places.TraceOut.{TraceOut}
use Rattle.lir_core.specs.Flows.{code_nodes}
use Rattle.lir_core.specs.Spots.{Spot, reg, put, view_of, Holds, placed, IsRising, IsRow}
use Rattle.lir_core.specs.Lines.{use_spots, names, def_spot, line_source, end_reads, Room, LinesInRange, AllBelow, slots_of}
use Rattle.lir_core.specs.Walks.{kept}

-- how far a run has come: the node's next operation, the registers named for what comes, the numbers of values, and what stands where
pub record Running : Type 0 where
  pub next : ℕ
  pub named : List ℕ
  pub values : ℕ → ℕ
  pub content : Spot → ℕ

abbrev pub gets : Option ℕ → Spot → ℕ → (Spot → ℕ) → Spot → ℕ
gets None d x content = content
gets (Some v) d x content = put content d x

-- what an operation leaves where it was is as it was, all else is anything
abbrev pub Keeps : Bool → (Spot → ℕ) → (Spot → ℕ) → Type 0
Keeps call content after = (p : Spot) → kept call p ≡ true → after p ≡ content p

-- behind an operation that gave x and left these contents
abbrev pub performed : Operation → Running → ℕ → (Spot → ℕ) → Running
performed op s x content = record { next = suc s.next; named = drop (names op) s.named; values = define op.def x s.values; content = gets op.def (def_spot op s.named) x content }

-- an operation reads the numbers of its uses; and whatever number it gives, and whatever it leaves in what it doesn't keep, what comes then is `goes`
abbrev pub Performs : Option Operation → ℕ → Running → (Running → Type 0) → Type 0
Performs None i s goes = ⊥
Performs (Some op) i s goes =
    (i ≡ s.next) × (names op ≤ length s.named) × (map s.content (use_spots op s.named) ≡ map s.values op.uses)
    × ((x : ℕ) (content : Spot → ℕ) → Keeps (is_call op.code) s.content content → goes (performed op s x content))

abbrev pub shifted : Line → Running → Running
shifted l s = record { next = s.next; named = s.named; values = s.values; content = λ p. s.content (line_source l p) }

abbrev pub Runs : List Operation → Line → Running → (Running → Type 0) → Type 0
Runs ops (Does i) s goes = Performs (slice_get ops i) i s goes
Runs ops (Store r v) s goes = goes (shifted (Store r v) s)
Runs ops (Load r v) s goes = goes (shifted (Load r v) s)
Runs ops (Moves ms) s goes = goes (shifted (Moves ms) s)
Runs ops (Result r) s goes = goes (shifted (Result r) s)
Runs ops (Target from) s goes = goes (shifted (Target from) s)

-- lines run one after the other
abbrev pub Simulates : List Operation → List Line → (Running → Type 0) → Running → Type 0
Simulates ops [] goes s = goes s
Simulates ops (l ∷ ls) goes s = Runs ops l s (Simulates ops ls goes)

-- behind the lines all operations are done, the registers that are left contain the numbers that the end reads, and the end places hold
pub record Ends (ops : List Operation) (last : List ℕ) (end : Places) (s : Running) : Type 0 where
  pub done : s.next ≡ length ops
  pub uses : map (λ r. s.content (reg r)) s.named ≡ map s.values last
  pub places : Holds s.values (view_of end) s.content

-- if the start places hold and the lines run, each operation reads its uses' numbers, and the end places hold
pub record AreSoundLines (room : Room) (ops : List Operation) (last : List ℕ) (start : Places) (lines : List Line) (named : List ℕ) (end : Places) : Type 0 where
  pub in_range : LinesInRange room lines
  pub named_below : AllBelow room.regs named
  pub simulates : (values : ℕ → ℕ) (content : Spot → ℕ) → Holds values (view_of start) content → Simulates ops lines (Ends ops last end) (record { next = 0; named = named; values = values; content = content })

---- Results

-- start places have all that is live into a node and the parameters that are wanted, and nothing but live values and parameters
pub record IsStart (bls : List CodeBlock) (n : ℕ) (start : Places) : Type 0 where
  pub live : (v : ℕ) → Live bls v n → placed start v ≡ true
  pub wanted : (v : ℕ) → has (block_at bls n).params v ≡ true → IsWanted bls (block_at bls n) (block_at bls n).ops v → placed start v ≡ true
  pub only : (v : ℕ) → placed start v ≡ true → Live bls v n ⊎ (has (block_at bls n).params v ≡ true)

-- end places have all that the end reads or passes on, and all that is live behind the node
pub record IsEnd (bls : List CodeBlock) (n : ℕ) (end : Places) : Type 0 where
  pub read : (v : ℕ) → has (end_uses (block_at bls n).end) v ≡ true → placed end v ≡ true
  pub live : (v : ℕ) → LiveBehind bls (block_at bls n) v → placed end v ≡ true

-- a node's part of a result; no edge asks that the homed values of its end rise
pub record IsSoundNode (room : Room) (bls : List CodeBlock) (n : ℕ) (start : Places) (lines : List Line) (named : List ℕ) (end : Places) : Type 0 where
  pub row : IsRow room.regs start × IsRow room.regs end
  pub rises : IsRising start.homed
  pub starts : IsStart bls n start
  pub ends : IsEnd bls n end
  pub lines_sound : AreSoundLines room (block_at bls n).ops (end_reads (block_at bls n).end) start lines named end

abbrev pub no_places : Places
no_places = record { regs = []; homed = [] }

-- k registers, the slots that some call of the flow uses, and its values
abbrev pub room_of : ℕ → Flow → Room
room_of k f = record { regs = k; slots = slots_of (code_nodes f.nodes); values = f.values }

-- a result for a trace has an entry of each list for each node of it, and each node's part is sound
pub record IsSound (k : ℕ) (f : Flow) (t : Trace) (o : TraceOut) : Type 0 where
  pub counts : (length o.starts ≡ length t.nodes) × (length o.ends ≡ length t.nodes) × (length o.lines ≡ length t.nodes) × (length o.regs ≡ length t.nodes)
  pub nodes : (i : ℕ) → i < length t.nodes
      → IsSoundNode (room_of k f) (code_nodes f.nodes) (get_or t.nodes i 0) (get_or o.starts i no_places) (get_or o.lines i []) (get_or o.regs i []) (get_or o.ends i no_places)

-- the homed values of each end rise, as of a hint they must
abbrev pub EndsRise : TraceOut → Type 0
EndsRise o = (i : ℕ) → IsRising (get_or o.ends i no_places).homed
