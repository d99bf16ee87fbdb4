-- That the lines so far simulate the trace so far.
use Rattle.std.specs.Prelude.{◌≡◌, ℕ, ◌<◌, ◌≤◌, ◌==◌, true, false, List, [], ◌∷◌, length, map, drop, Option, Some, None}
use Rattle.block_runs.specs.Blocks.{Operation}
use Rattle.block_runs.specs.Live.{has}
use Rattle.block_runs.specs.Valid.{is_call}
use Rattle.lir_core.specs.declared.places.Places.{Places}
use Rattle.lir_core.specs.declared.places.Line.{Line}
use Rattle.lir_core.specs.Spots.{Spot, reg, get, view_of, placed}
use Rattle.lir_core.specs.Lines.{is_aimed, slots_used, Room, AllBelow}
use Rattle.lir_core.specs.Walks.{Walker, Passes, walk, begin, Below, Walks}
use Rattle.loc_state.specs.declared.part.Part.{Part}
use Rattle.loc_state.specs.declared.forward.Forward.{Forward}
use Rattle.loc_state.specs.Registers.{register_of}
use Rattle.loc_state.specs.Steps.{places}

---- A node

-- the lines lead a walk from the start places to z
pub record Reaches (room : Room) (ops : List Operation) (start : Places) (lines : List Line) (named : List ℕ) (z : Walker) : Type 0 where
  pub passes : Passes room ops lines (begin start named)
  pub is : walk ops lines (begin start named) ≡ z

-- all values that places name are values of the flow
abbrev pub AreValues : ℕ → Places → Type 0
AreValues values q = (p : Spot) (v : ℕ) → view_of q p ≡ Some v → v < values

-- at z the first n operations are done, the registers named for what comes have the values noted, and the places are true
pub record Stands (room : Room) (n : ℕ) (noted : List ℕ) (q : Places) (z : Walker) : Type 0 where
  pub registers : length q.regs ≡ room.regs
  pub values : AreValues room.values q
  pub next : z.next ≡ n
  pub in_range : AllBelow room.regs z.named
  pub uses : map (λ r. z.view (reg r)) z.named ≡ map Some noted
  pub places : Below (view_of q) z.view

-- the lines so far simulate the node's first n operations, and registers are named for the uses noted since
pub record Walked (room : Room) (ops : List Operation) (n : ℕ) (noted : List ℕ) (t : Part) : Type 0 where
  pub at : Walker
  pub reaches : Reaches room ops t.start t.lines t.named at
  pub stands : Stands room n noted (places t) at
  pub within : t.since ≤ length t.named
  pub fresh : at.named ≡ drop t.since t.named

---- Conditions

-- the register is none of those that are named for the uses noted
abbrev pub Apart : ℕ → List ℕ → Type 0
Apart r [] = Unit {0}
Apart r (x ∷ xs) = ((x == r) ≡ false) × Apart r xs

-- a register that is given is one of the row's
abbrev pub InRow : Option ℕ → Part → Type 0
InRow None t = Unit {0}
InRow (Some r) t = r < length t.regs

-- a value can be brought: it is in a register, or homed, and the register that is given is empty and not noted
abbrev pub CanBring : ℕ → Option ℕ → Part → Type 0
CanBring v None t = get t.regs (register_of v t.regs) ≡ Some v
CanBring v (Some r) t = (has t.homed v ≡ true) × (r < length t.regs) × (get t.regs r ≡ None) × Apart r (drop t.since t.named)

-- a register is given exactly where something is defined
abbrev pub Matches : Option ℕ → Option ℕ → Part → Type 0
Matches None None t = Unit {0}
Matches (Some v) (Some r) t = r < length t.regs
Matches _ _ t = ⊥

abbrev pub IsAbsent : ℕ → Option ℕ → Part → Type 0
IsAbsent values None t = Unit {0}
IsAbsent values (Some v) t = (v < values) × (placed (places t) v ≡ false)

abbrev pub IsFreeFor : Option ℕ → Part → Type 0
IsFreeFor None t = Unit {0}
IsFreeFor (Some r) t = get t.regs r ≡ None

-- an operation that isn't a call can end: its definition has no place, and the register that is given is empty
pub record CanDefine (values : ℕ) (op : Operation) (reg : Option ℕ) (t : Part) : Type 0 where
  pub plain : is_call op.code ≡ false
  pub given : Matches op.def reg t
  pub empty : IsFreeFor reg t
  pub absent : IsAbsent values op.def t

-- a call can be made: each use has a place, the definition has none, and there are slots for the arguments
pub record CanCall (room : Room) (op : Operation) (t : Part) : Type 0 where
  pub call : is_call op.code ≡ true
  pub aimed : is_aimed op.code ≡ true → 1 ≤ length op.uses
  pub enough : 4 ≤ room.regs
  pub slots : slots_used op ≤ room.slots
  pub uses : (u : ℕ) → has op.uses u ≡ true → placed (places t) u ≡ true
  pub absent : IsAbsent room.values op.def t

---- A trace

-- a node: its operations, and what its end reads in registers
pub record Task : Type 0 where
  pub ops : List Operation
  pub last : List ℕ

abbrev pub task : List Operation → List ℕ → Task
task ops last = record { ops = ops; last = last }

-- the walk accepts each node's lines
abbrev pub AllWalk : Room → List Task → List Places → List (List Line) → List (List ℕ) → List Places → Type 0
AllWalk room [] [] [] [] [] = Unit {0}
AllWalk room (b ∷ bs) (s ∷ ss) (l ∷ ls) (r ∷ rs) (e ∷ es) = Walks room b.ops b.last s l r e × AllWalk room bs ss ls rs es
AllWalk room _ _ _ _ _ = ⊥

-- the nodes that are ended are walked
abbrev pub IsWalked : Room → List Task → Forward → Type 0
IsWalked room done f = AllWalk room done f.starts f.lines f.regs f.ends

-- what is walked: the nodes before, and the operations of the one that is being walked
pub record Course : Type 0 where
  pub room : Room
  pub done : List Task
  pub ops : List Operation

-- the nodes before are walked, and in the one that is being walked the first n operations and the uses noted
pub record Simulates (x : Course) (n : ℕ) (noted : List ℕ) (f : Forward) : Type 0 where
  pub before : IsWalked x.room x.done f
  pub here : Walked x.room x.ops n noted f.part
