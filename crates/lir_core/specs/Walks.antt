-- A walk through a node's lines by the names of values: which value stands where.
use Rattle.std.specs.Prelude.{◌≡◌, ℕ, suc, ◌<◌, ◌≤◌, ◌==◌, Bool, true, false, not, cond, List, [], ◌∷◌, length, map, take, drop, Option, Some, None, slice_get}
use Rattle.block_runs.specs.Blocks.{Operation}
use Rattle.block_runs.specs.Valid.{is_call}
use Rattle.lir_core.specs.declared.places.Move.{Move}
use Rattle.lir_core.specs.declared.places.Places.{Places}
use Rattle.lir_core.specs.declared.places.Line.{Line}
use Rattle.lir_core.specs.declared.places.Line.TheVariants.{Store, Load, Moves, Result, Target}
use Rattle.lir_core.specs.declared.places.Line.TheVariants.{Lir as Does}
use Rattle.lir_core.specs.Spots.{Spot, reg, home, target, saved, same, spot, is_home, put, view_of}
use Rattle.lir_core.specs.Lines.{use_spots, names, def_spot, line_source, AreDistinct, Room, InRange, AllBelow}

-- how far a walk has come: the node's next operation, the registers named for what comes, and which value stands where
pub record Walker : Type 0 where
  pub next : ℕ
  pub named : List ℕ
  pub view : Spot → Option ℕ

-- what an operation leaves where it was: a call homes alone, any other all but X16
abbrev pub kept : Bool → Spot → Bool
kept true p = is_home p
kept false p = not (same p saved)

abbrev pub left : Bool → (Spot → Option ℕ) → Spot → Option ℕ
left call view p = cond (kept call p) (view p) None

-- no spot has v any more
abbrev pub without : ℕ → Option ℕ → Option ℕ
without v None = None
without v (Some u) = cond (u == v) None (Some u)

abbrev pub defined : Option ℕ → Spot → (Spot → Option ℕ) → Spot → Option ℕ
defined None d view p = view p
defined (Some v) d view p = put (λ q. without v (view q)) d (Some v) p

abbrev pub perform : Option Operation → Walker → Walker
perform None w = w
perform (Some op) w = record { next = suc w.next; named = drop (names op) w.named; view = defined op.def (def_spot op w.named) (left (is_call op.code) w.view) }

abbrev pub moved : Line → Walker → Walker
moved l w = record { next = w.next; named = w.named; view = λ p. w.view (line_source l p) }

-- behind a line
abbrev pub after : List Operation → Line → Walker → Walker
after ops (Does i) w = perform (slice_get ops i) w
after ops (Result r) w = record { next = w.next; named = w.named; view = λ p. cond (same p (reg 0)) None (w.view (line_source (Result r) p)) }
after ops (Store r v) w = moved (Store r v) w
after ops (Load r v) w = moved (Load r v) w
after ops (Moves ms) w = moved (Moves ms) w
after ops (Target from) w = moved (Target from) w

abbrev pub walk : List Operation → List Line → Walker → Walker
walk ops [] w = w
walk ops (l ∷ ls) w = walk ops ls (after ops l w)

---- What a walk accepts

-- the operation is the next one, registers are named for it, and its uses stand where it reads them
abbrev pub Can : ℕ → Option Operation → ℕ → Walker → Type 0
Can k None i w = ⊥
Can k (Some op) i w = (i ≡ w.next) × (names op ≤ length w.named) × AllBelow k (take (names op) w.named) × (map w.view (use_spots op w.named) ≡ map Some op.uses)

-- a spot can take what stands in another: a value, and a home its own alone
abbrev pub Taken : Room → Spot → Option ℕ → Type 0
Taken room to None = ⊥
Taken room (home u) (Some v) = (u ≡ v) × (u < room.values)
Taken room to (Some v) = InRange room to

abbrev pub AllTaken : Room → (Spot → Option ℕ) → List Move → Type 0
AllTaken room view [] = Unit {0}
AllTaken room view (m ∷ ms) = InRange room (spot m.from) × Taken room (spot m.to) (view (spot m.from)) × AllTaken room view ms

-- a line can be taken
abbrev pub Fits : Room → List Operation → Line → Walker → Type 0
Fits room ops (Does i) w = Can room.regs (slice_get ops i) i w
Fits room ops (Store r v) w = (r < room.regs) × (v < room.values) × (w.view (reg r) ≡ Some v)
Fits room ops (Load r v) w = (r < room.regs) × (v < room.values) × (w.view (home v) ≡ Some v)
Fits room ops (Moves ms) w = AreDistinct ms × AllTaken room w.view ms
Fits room ops (Result r) w = r < room.regs
Fits room ops (Target from) w = InRange room (spot from) × Taken room target (w.view (spot from))

abbrev pub Passes : Room → List Operation → List Line → Walker → Type 0
Passes room ops [] w = Unit {0}
Passes room ops (l ∷ ls) w = Fits room ops l w × Passes room ops ls (after ops l w)

abbrev pub begin : Places → List ℕ → Walker
begin start named = record { next = 0; named = named; view = view_of start }

-- what one view says, the other says too
abbrev pub Below : (Spot → Option ℕ) → (Spot → Option ℕ) → Type 0
Below w z = (p : Spot) (v : ℕ) → w p ≡ Some v → z p ≡ Some v

-- behind the lines all operations are done, the registers that are left are those of the end's uses, and the end places are right
pub record Finishes (k : ℕ) (ops : List Operation) (last : List ℕ) (end : Places) (w : Walker) : Type 0 where
  pub done : w.next ≡ length ops
  pub in_range : AllBelow k w.named
  pub uses : map (λ r. w.view (reg r)) w.named ≡ map Some last
  pub places : Below (view_of end) w.view

-- the walk accepts a node's lines, from its start places to its end places, where `last` are the values that its end reads
pub record Walks (room : Room) (ops : List Operation) (last : List ℕ) (start : Places) (lines : List Line) (named : List ℕ) (end : Places) : Type 0 where
  pub passes : Passes room ops lines (begin start named)
  pub finishes : Finishes room.regs ops last end (walk ops lines (begin start named))
