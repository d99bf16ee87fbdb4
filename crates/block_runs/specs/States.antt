-- The states of code in blocks, and the points of a program at which they stand.
use Rattle.std.specs.Prelude.{ℕ, List}
use Rattle.a64_memory.specs.Memory.{Area}

-- an active call: its procedure, its block, the operation in that block at which it stands (behind the last one, the end),
-- what its values contain, and its argument words
pub record Frame : Type 0 where
  pub proc : ℕ
  pub block : ℕ
  pub at : ℕ
  pub values : ℕ → ℕ
  pub args : List ℕ

-- all that the calls share
pub record World : Type 0 where
  pub memory : List Area  -- all but the code and the frames
  pub body : ℕ  -- which of the modules' bodies runs
  pub calls : ℕ  -- how many calls may still be open
  pub cells : ℕ  -- how many cells of local data are left
  pub local : ℕ  -- where the next local data lie
  pub next : ℕ  -- where the heap's next object lies
  pub free : ℕ  -- how many cells of the heap are left
  pub input : List ℕ  -- what is left of it

-- a routine at work: its arguments and, behind its head, how many bytes are done
pub data Work : Type 0 where
  CopyHead : (to from bytes : ℕ) → Work
  CopyCell : (to from bytes done : ℕ) → Work
  CopyTail : (to from bytes done : ℕ) → Work
  ZeroHead : (to bytes : ℕ) → Work
  ZeroCell : (to bytes done : ℕ) → Work
  CompareHead : (x m y n : ℕ) → Work
  CompareCell : (x m y n done : ℕ) → Work

-- a state: between the modules' bodies; at a procedure's entry, with its argument words and the calls that wait for it; in a
-- call, with those that wait for it; or in a routine, for which the frame at its operation waits
pub data State : Type 0 where
  Starts : (w : World) → State
  Enters : (p : ℕ) → (args : List ℕ) → (fs : List Frame) → (w : World) → State
  Runs : (f : Frame) → (fs : List Frame) → (w : World) → State
  Works : (work : Work) → (f : Frame) → (fs : List Frame) → (w : World) → State

-- why it stops without having ended: a trap of a kind in a procedure; or a fault, which no code comes to that keeps to
-- what its layer says, with an address or number that says where
pub data Stop : Type 0 where
  Kind : (kind proc : ℕ) → Stop
  Fault : (at : ℕ) → Stop

-- the parts of the routines
pub data Part : Type 0 where
  CopyAtHead : Part
  CopyAtCell : Part
  CopyAtTail : Part
  ZeroAtHead : Part
  ZeroAtCell : Part
  CompareAtHead : Part
  CompareAtCell : Part

abbrev pub part : Work → Part
part (CopyHead to from bytes) = CopyAtHead
part (CopyCell to from bytes done) = CopyAtCell
part (CopyTail to from bytes done) = CopyAtTail
part (ZeroHead to bytes) = ZeroAtHead
part (ZeroCell to bytes done) = ZeroAtCell
part (CompareHead x m y n) = CompareAtHead
part (CompareCell x m y n done) = CompareAtCell

-- a point: where the j-th body begins, and behind the last one the end; a procedure's entry; an operation of a block, and
-- behind its operations its end; a part of a routine, which all callers share
pub data Point : Type 0 where
  Begin : (j : ℕ) → Point
  Entry : (p : ℕ) → Point
  In : (p b i : ℕ) → Point
  At : (part : Part) → Point

abbrev pub point : State → Point
point (Starts w) = Begin w.body
point (Enters p args fs w) = Entry p
point (Runs f fs w) = In f.proc f.block f.at
point (Works work f fs w) = At (part work)
