-- When a machine's state is that of the flows: the frames in the stack, and what is ready to go on.
use Rattle.std.proofs.Common.{get_or, ◌-◌, ◌≡◌, ℕ, suc, ◌+◌, ◌*◌, ◌<◌, ◌≤◌, ◌^◌, List, [], ◌∷◌, ◌++◌, map, length, Bool, true, false, cond, Option, Some, None, refl, arith, ◌∙◌}
use Rattle.std.specs.Prelude.{if◌then◌else◌, slice_get, is_some}
use Rattle.run_laws.specs.Runs.{Moves}
use Rattle.run_laws.specs.Layers.{places_from}
use Rattle.a64_memory.specs.Memory.{Area}
use Rattle.a64_numbers.specs.Branches.{branch_field}
use Rattle.a64_instr.specs.declared.instr.Instr.TheVariants.{Bl, Svc}
use Rattle.a64_machine.specs.State.{State, address_of}
use Rattle.a64_memory.specs.Areas.{frames_base, frames_bytes}
use Rattle.a64_machine.specs.Machine.{step_of}
use Rattle.a64_machine.proofs.Steps.{Stands, StandAll}
use Rattle.a64_machine.proofs.Numbers.{Numbers}
use Rattle.a64_runtime.specs.Routines.{routines}
use Rattle.block_runs.specs.declared.end.End.{End}
use Rattle.block_runs.specs.declared.end.End.TheVariants.{Return, Jump, Branch, Nonzero, Trap}
use Rattle.block_runs.specs.Blocks.{Operation}
use Rattle.block_runs.specs.Blocks as flow
use Rattle.block_runs.specs.Valid.{is_call}
use Rattle.block_runs.specs.States.{Frame, World, Work, CopyHead, CopyCell, CopyTail, ZeroHead, ZeroCell, CompareHead, CompareCell, Starts, Enters, Runs, Works, Part, CopyAtHead, CopyAtCell, CopyAtTail, ZeroAtHead, ZeroAtCell, CompareAtHead, CompareAtCell, Point, Begin, Entry, In, At, part}
use Rattle.block_runs.specs.States.{State as Flow}
use Rattle.block_runs.specs.Steps.{set_all, define, first_values}
use Rattle.lir_core.specs.Spots.{Spot, reg, home, saved, same}
use Rattle.lir_core.specs.Lines.{use_spots}
use Rattle.placed_code.specs.Placed.{Cell, Block, Placed, procedure, proc_of, block_of, def_register, all_copied}
use Rattle.placed_code.specs.Words.{slots_of, slot_of, copies_words, last_words, prologue, jump_words, frame_of}
use Rattle.placed_code.specs.Layout.{own_words}
use Rattle.placed_code.specs.Claims.{AllNamed, HomesFit, EndFits, OpFits}
use Rattle.placed_code.proofs.Steps.{rest_of, params_of}
use Rattle.placed_code.proofs.Stack.{held}
use Rattle.placed_code.proofs.Slots as on
use Rattle.placed_code.proofs.Contents.{from_where, content}

-- what the linker made: the code, the greatest frame, the modules' bodies in order, and which words belong to which point
pub record Linked : Type 0 where
  pub code : List ℕ
  pub frame : ℕ
  pub bodies : List ℕ
  pub procs : List Placed
  pub entry : ℕ → ℕ
  pub entry_width : ℕ → ℕ
  pub size : ℕ → ℕ
  pub place : ℕ → ℕ → ℕ → ℕ
  pub width : ℕ → ℕ → ℕ → ℕ
  pub follower : ℕ → ℕ → ℕ  -- the block that falls next behind one

---- The routines

-- the word at which they begin
abbrev pub start : Linked → ℕ
start l = suc (length l.bodies)

abbrev pub part_place : ℕ → Part → ℕ
part_place r CopyAtHead = r + 0
part_place r CopyAtCell = r + 1
part_place r CopyAtTail = r + 8
part_place r ZeroAtHead = r + 15
part_place r ZeroAtCell = r + 16
part_place r CompareAtHead = r + 22
part_place r CompareAtCell = r + 23

abbrev pub part_width : Part → ℕ
part_width CopyAtHead = 1
part_width CopyAtCell = 7
part_width CopyAtTail = 7
part_width ZeroAtHead = 1
part_width ZeroAtCell = 6
part_width CompareAtHead = 1
part_width CompareAtCell = 15

-- what its registers hold
abbrev pub WorkHolds : Work → (ℕ → ℕ) → Type 0
WorkHolds (CopyHead to from bytes) r = (r 0 ≡ to) × (r 1 ≡ from) × (r 2 ≡ bytes)
WorkHolds (CopyCell to from bytes done) r = (r 0 ≡ to) × (r 1 ≡ from) × (r 2 ≡ bytes) × (r 3 ≡ done)
WorkHolds (CopyTail to from bytes done) r = (r 0 ≡ to) × (r 1 ≡ from) × (r 2 ≡ bytes) × (r 3 ≡ done)
WorkHolds (ZeroHead to bytes) r = (r 0 ≡ to) × (r 1 ≡ bytes)
WorkHolds (ZeroCell to bytes done) r = (r 0 ≡ to) × (r 1 ≡ bytes) × (r 3 ≡ done)
WorkHolds (CompareHead x m y n) r = (r 0 ≡ x) × (r 1 ≡ m) × (r 2 ≡ y) × (r 3 ≡ n)
WorkHolds (CompareCell x m y n done) r = (r 0 ≡ x) × (r 1 ≡ m) × (r 2 ≡ y) × (r 3 ≡ n) × (r 4 ≡ done)

---- What an operation reads and leaves in the spots

abbrev pub Reads : Operation → List ℕ → (Spot → ℕ) → (ℕ → ℕ) → Type 0
Reads op named C V = map C (use_spots op named) ≡ map V op.uses

abbrev pub Gives : ℕ → ℕ → (Spot → ℕ) → (Spot → ℕ) → Type 0
Gives d x c t = (t (reg d) ≡ x) × ((p : Spot) → same p (reg d) ≡ false → same p saved ≡ false → t p ≡ c p)

abbrev pub Same : (Spot → ℕ) → (Spot → ℕ) → Type 0
Same c t = (p : Spot) → same p saved ≡ false → t p ≡ c p

-- a definition is given, where there is one
abbrev pub GivesTo : Option ℕ → ℕ → ℕ → (Spot → ℕ) → (Spot → ℕ) → Type 0
GivesTo None d x c t = Same c t
GivesTo (Some v) d x c t = Gives d x c t

pub gives_to : (v : Option ℕ) (d x : ℕ) (c t : Spot → ℕ) → is_some v ≡ true → Gives d x c t → GivesTo v d x c t
gives_to None d x c t e h = cc
gives_to (Some v) d x c t e h = h

pub same_to : (v : Option ℕ) (d x : ℕ) (c t : Spot → ℕ) → is_some v ≡ false → Same c t → GivesTo v d x c t
same_to None d x c t e h = h
same_to (Some v) d x c t e h = cc

abbrev pub Homes : (Spot → ℕ) → (Spot → ℕ) → Type 0
Homes c t = (v : ℕ) → t (home v) ≡ c (home v)

-- what comes back, where a value is defined
abbrev pub Answer : Option ℕ → ℕ → (Spot → ℕ) → Type 0
Answer None x t = Unit {0}
Answer (Some v) x t = t (reg 0) ≡ x

pub no_answer : (v : Option ℕ) (x : ℕ) (t : Spot → ℕ) → is_some v ≡ false → Answer v x t
no_answer None x t e = tt
no_answer (Some v) x t e = cc

pub answers : (v : Option ℕ) (x : ℕ) (t : Spot → ℕ) → t (reg 0) ≡ x → Answer v x t
answers None x t e = tt
answers (Some v) x t e = e

abbrev pub AfterBy : Bool → Option ℕ → ℕ → ℕ → (Spot → ℕ) → (Spot → ℕ) → Type 0
AfterBy true def d x c t = Homes c t × Answer def x t
AfterBy false def d x c t = GivesTo def d x c t

-- behind an operation that gave x; d is the register of its definition
abbrev pub After : Operation → ℕ → ℕ → (Spot → ℕ) → (Spot → ℕ) → Type 0
After op d x c t = AfterBy (is_call op.code) op.def d x c t

-- the arguments of a frame above the fourth stand at the end of its caller's frame
pub record Above (frame : ℕ) (s : Area) (base : ℕ) (args : List ℕ) : Type 0 where
  pub held : (i : ℕ) → i + 4 < length args → held s (base + 8 * i) ≡ get_or args (i + 4) 0
  pub room : base + 8 * (length args - 4) ≤ frames_base + frames_bytes frame

pub above_stays : (frame : ℕ) (s s' : Area) (base : ℕ) (args : List ℕ) → ((q : ℕ) → base ≤ q → held s' q ≡ held s q) → Above frame s base args → Above frame s' base args
above_stays frame s s' base args same h = record { held = λ i l. same (base + 8 * i) (omega arith) ∙ h.held i l; room = h.room }

-- Begins p b V c: with values V and these contents, block b of procedure p may begin
module _ (l : Linked) (Begins : (p b : ℕ) → (ℕ → ℕ) → (Spot → ℕ) → Type 0) where
  pub record Enterable (q : ℕ) : Type 0 where
    pub known : q < length l.procs
    pub fits : HomesFit (proc_of l.procs q)
    pub low : l.entry q < 2 ^ 18
    pub falls : Bool
    pub stands : StandAll l.code (l.entry q) (prologue (proc_of l.procs q) ++ (copies_words (proc_of l.procs q) (proc_of l.procs q).copies ++ jump_words falls (l.entry q + (length (prologue (proc_of l.procs q)) + length (copies_words (proc_of l.procs q) (proc_of l.procs q).copies))) (l.place q 0 0)))
    pub width : l.entry_width q ≡ length (prologue (proc_of l.procs q)) + (length (copies_words (proc_of l.procs q) (proc_of l.procs q).copies) + length (jump_words falls (l.entry q + (length (prologue (proc_of l.procs q)) + length (copies_words (proc_of l.procs q) (proc_of l.procs q).copies))) (l.place q 0 0)))
    pub first : falls ≡ true → l.place q 0 0 ≡ l.entry q + (length (prologue (proc_of l.procs q)) + length (copies_words (proc_of l.procs q) (proc_of l.procs q).copies))
    pub inside : l.entry_width q ≤ l.size q
    pub named : AllNamed (proc_of l.procs q) (proc_of l.procs q).copies
    pub frame : frame_of (proc_of l.procs q) ≤ l.frame
    pub cells : ((proc_of l.procs q).cells < 2 ^ 64) × ((proc_of l.procs q).bytes < 2 ^ 24)
    pub begins : (args : List ℕ) (c : Spot → ℕ) → length (params_of (proc_of l.procs q)) ≤ length args → ((i : ℕ) → i < 4 → i < length args → c (reg i) ≡ get_or args i 0)
        → Begins q 0 (first_values (procedure (proc_of l.procs q)) args) (all_copied (proc_of l.procs q).copies c)

  abbrev pub Returns : Option ℕ → ℕ → (ℕ → ℕ) → (Spot → ℕ) → Type 0
  Returns None a V c = Unit {0}
  Returns (Some x) a V c = c (reg a) ≡ V x

  abbrev pub Leaves : ℕ → End → ℕ → ℕ → (ℕ → ℕ) → (Spot → ℕ) → Type 0
  Leaves p (Return x) a b V c = Returns x a V c
  Leaves p (Jump to args) a b V c = Begins p to (set_all (flow.block_of (procedure (proc_of l.procs p)) to).params (map V args) V) c
  Leaves p (Branch cond x y one other) a b V c = (c (reg a) ≡ V x) × (c (reg b) ≡ V y) × Begins p one V c × Begins p other V c
  Leaves p (Nonzero x one other) a b V c = (c (reg a) ≡ V x) × Begins p one V c × Begins p other V c
  Leaves p (Trap kind) a b V c = Unit {0}

  -- a point's words lie in its procedure's, which is there
  pub record Inside (p b i : ℕ) : Type 0 where
    pub known : p < length l.procs
    pub from : l.entry p ≤ l.place p b i
    pub to : l.place p b i + l.width p b i ≤ l.entry p + l.size p

  -- a cell whose words stand at its place, whose copies bring what it reads, and what may come behind it
  pub record CellReady (p b i : ℕ) (cell : Cell) (V : ℕ → ℕ) (c : Spot → ℕ) (on : (ℕ → ℕ) → (Spot → ℕ) → Type 0) : Type 0 where
    pub low : l.place p b i < 2 ^ 18
    pub stands : StandAll l.code (l.place p b i) (copies_words (proc_of l.procs p) cell.copies ++ own_words l.entry (start l) (slots_of (proc_of l.procs p)) (l.place p b i + length (copies_words (proc_of l.procs p) cell.copies)) cell.op cell.named)
    pub width : l.width p b i ≡ length (copies_words (proc_of l.procs p) cell.copies) + length (own_words l.entry (start l) (slots_of (proc_of l.procs p)) (l.place p b i + length (copies_words (proc_of l.procs p) cell.copies)) cell.op cell.named)
    pub behind : l.place p b (suc i) ≡ l.place p b i + l.width p b i
    pub inside : Inside p b i
    pub named : AllNamed (proc_of l.procs p) cell.copies
    pub args : ℕ
    pub fits : OpFits (proc_of l.procs p) args cell.op cell.named
    pub reads : Reads cell.op cell.named (all_copied cell.copies c) V
    pub goes : (x : ℕ) (t : Spot → ℕ) → After cell.op (def_register cell.named cell.op) x (all_copied cell.copies c) t → on (define cell.op.def x V) t

  pub record EndReady (p b i : ℕ) (bl : Block) (V : ℕ → ℕ) (c : Spot → ℕ) : Type 0 where
    pub low : l.place p b i < 2 ^ 18
    pub stands : StandAll l.code (l.place p b i) (copies_words (proc_of l.procs p) bl.copies ++ last_words (l.follower p b) (λ t. l.place p t 0) (proc_of l.procs p) (l.place p b i + length (copies_words (proc_of l.procs p) bl.copies)) bl.end bl.a bl.b)
    pub width : l.width p b i ≡ length (copies_words (proc_of l.procs p) bl.copies) + length (last_words (l.follower p b) (λ t. l.place p t 0) (proc_of l.procs p) (l.place p b i + length (copies_words (proc_of l.procs p) bl.copies)) bl.end bl.a bl.b)
    pub named : AllNamed (proc_of l.procs p) bl.copies
    pub inside : Inside p b i
    pub fits : EndFits bl.end bl.a bl.b
    pub behind : l.place p (l.follower p b) 0 ≡ l.place p b i + l.width p b i
    pub leaves : Leaves p bl.end bl.a bl.b V (all_copied bl.copies c)

  abbrev pub Ready : ℕ → Block → ℕ → ℕ → List Cell → (ℕ → ℕ) → (Spot → ℕ) → Type 0
  Ready p bl b i [] V c = EndReady p b i bl V c
  Ready p bl b i (cell ∷ cells) V c = CellReady p b i cell V c (λ U t. Ready p bl b (suc i) cells U t)

  -- a caller waits for a result; whatever is in its spots then, if its homes hold what they hold now
  pub record Resumes (s : Area) (low ret : ℕ) (g : Frame) (cell : Cell) (cells : List Cell) : Type 0 where
    pub fits : HomesFit (proc_of l.procs g.proc)
    pub frame : frame_of (proc_of l.procs g.proc) ≤ l.frame
    pub few : ((proc_of l.procs g.proc).cells < 2 ^ 64) × ((proc_of l.procs g.proc).bytes < 2 ^ 24)
    pub place : ret ≡ l.place g.proc g.block (suc g.at)
    pub goes : (x : ℕ) (c : Spot → ℕ) → ((v : ℕ) → c (home v) ≡ content (proc_of l.procs g.proc) s low (λ n. 0) (home v)) → Answer cell.op.def x c
        → Ready g.proc (block_of (proc_of l.procs g.proc) g.block) g.block (suc g.at) cells (define cell.op.def x g.values) c

  abbrev pub Waits : Area → ℕ → ℕ → Frame → List Cell → Type 0
  Waits s low ret g [] = ⊥
  Waits s low ret g (cell ∷ cells) = Resumes s low ret g cell cells

  abbrev pub counts : Placed → ℕ
  counts pr = if pr.counted then 1 else 0

  -- the callers' frames lie one above the other from low on; the innermost is gone back to at the word ret
  abbrev pub Callers : ℕ → Area → ℕ → ℕ → ℕ → ℕ → List Frame → Type 0
  Callers body s low calls cells ret [] = (low ≡ frames_base + frames_bytes l.frame) × (ret ≡ suc body) × (calls ≡ 8192) × (cells ≡ 1048576) × (body < length l.bodies)
  Callers body s low calls cells ret (g ∷ gs) =
      Waits s low ret g (rest_of l.procs g) × (frames_base + calls * l.frame ≤ low) × (low + 8 * slots_of (proc_of l.procs g.proc) ≤ frames_base + frames_bytes l.frame)
      × (link : ℕ) × (held s (low + 8 * (proc_of l.procs g.proc).outs) ≡ address_of link) × (link ≤ 2 ^ 18) × Above l.frame s (low + 8 * slots_of (proc_of l.procs g.proc)) g.args × Callers body s (low + 8 * slots_of (proc_of l.procs g.proc)) (calls + counts (proc_of l.procs g.proc)) (cells + (proc_of l.procs g.proc).cells) link gs

  -- the word that enters a module's body
  pub record BodyStands (j p : ℕ) : Type 0 where
    pub near : j < 2 ^ 18
    pub stands : Stands l.code j (Bl (branch_field 26 (address_of j) (address_of (l.entry p))))
    pub known : p < length l.procs
    pub uncounted : (proc_of l.procs p).counted ≡ false
    pub none : length (params_of (proc_of l.procs p)) ≤ 0

  -- what stands in the code
  pub record Standing : Type 0 where
    pub bodies : (j p : ℕ) → slice_get l.bodies j ≡ Some p → BodyStands j p
    pub last : Stands l.code (length l.bodies) (Svc 0)
    pub entries : (p : ℕ) → l.entry p ≤ 2 ^ 18
    pub routines_end : start l + 38 ≤ 2 ^ 18
    pub routines : StandAll l.code (start l) routines
    pub enterable : (q : ℕ) → q < length l.procs → Enterable q

  module _ (keeps_small : (a b : State) (w : List ℕ) → Numbers a → step_of l.code a ≡ Moves w b → Numbers b) where
    pub record Starting (w : World) (a : State) : Type 0 where
      pub stack : Area
      pub at : on.At l.code keeps_small l.frame (frames_base + frames_bytes l.frame) 0 w.body w stack a
      pub calls : w.calls ≡ 8192
      pub cells : w.cells ≡ 1048576
      pub few : w.body ≤ length l.bodies
      pub standing : Standing

    pub record Entering (p : ℕ) (args : List ℕ) (fs : List Frame) (w : World) (a : State) : Type 0 where
      pub stack : Area
      pub low : ℕ
      pub ret : ℕ
      pub at : on.At l.code keeps_small l.frame low 0 (l.entry p) w stack a
      pub enterable : Enterable p
      pub enough : length (params_of (proc_of l.procs p)) ≤ length args
      pub given : (i : ℕ) → i < 4 → i < length args → a.registers i ≡ get_or args i 0
      pub above : Above l.frame stack low args
      pub link : a.registers 30 ≡ address_of ret
      pub near : ret ≤ 2 ^ 18
      pub callers : Callers w.body stack low w.calls w.cells ret fs
      pub room : frames_base + (w.calls + (if (proc_of l.procs p).counted then 0 else 1)) * l.frame ≤ low
      pub standing : Standing

    pub record Running (f : Frame) (fs : List Frame) (w : World) (a : State) : Type 0 where
      pub stack : Area
      pub low : ℕ
      pub ret : ℕ
      pub at : on.At l.code keeps_small l.frame low (slots_of (proc_of l.procs f.proc)) (l.place f.proc f.block f.at) w stack a
      pub fits : HomesFit (proc_of l.procs f.proc)
      pub frame : frame_of (proc_of l.procs f.proc) ≤ l.frame
      pub cells : ((proc_of l.procs f.proc).cells < 2 ^ 64) × ((proc_of l.procs f.proc).bytes < 2 ^ 24)
      pub ready : Ready f.proc (block_of (proc_of l.procs f.proc) f.block) f.block f.at (rest_of l.procs f) f.values (content (proc_of l.procs f.proc) stack low a.registers)
      pub link : held stack (low + 8 * (proc_of l.procs f.proc).outs) ≡ address_of ret
      pub near : ret ≤ 2 ^ 18
      pub callers : Callers w.body stack (low + 8 * slots_of (proc_of l.procs f.proc)) (w.calls + counts (proc_of l.procs f.proc)) (w.cells + (proc_of l.procs f.proc).cells) ret fs
      pub room : frames_base + w.calls * l.frame ≤ low
      pub above : Above l.frame stack (low + 8 * slots_of (proc_of l.procs f.proc)) f.args
      pub standing : Standing

    -- a routine at work for a frame, which waits as for a call; it goes back to the word back
    pub record Working (k : Work) (f : Frame) (fs : List Frame) (w : World) (a : State) : Type 0 where
      pub stack : Area
      pub low : ℕ
      pub ret : ℕ
      pub back : ℕ
      pub at : on.At l.code keeps_small l.frame low (slots_of (proc_of l.procs f.proc)) (part_place (start l) (part k)) w stack a
      pub holds : WorkHolds k a.registers
      pub link_register : a.registers 30 ≡ address_of back
      pub waits : Waits stack low back f (rest_of l.procs f)
      pub link : held stack (low + 8 * (proc_of l.procs f.proc).outs) ≡ address_of ret
      pub near : ret ≤ 2 ^ 18
      pub callers : Callers w.body stack (low + 8 * slots_of (proc_of l.procs f.proc)) (w.calls + counts (proc_of l.procs f.proc)) (w.cells + (proc_of l.procs f.proc).cells) ret fs
      pub room : frames_base + w.calls * l.frame ≤ low
      pub above : Above l.frame stack (low + 8 * slots_of (proc_of l.procs f.proc)) f.args
      pub standing : Standing

    abbrev pub Similar : Flow → State → Type 0
    Similar (Starts w) a = Starting w a
    Similar (Enters p args fs w) a = Entering p args fs w a
    Similar (Runs f fs w) a = Running f fs w a
    Similar (Works k f fs w) a = Working k f fs w a

  -- the words of a point
  abbrev pub words : Point → List ℕ
  words (Begin j) = j ∷ []
  words (Entry p) = places_from (l.entry p) (l.entry_width p)
  words (In p b i) = places_from (l.place p b i) (l.width p b i)
  words (At q) = places_from (part_place (start l) q) (part_width q)

  -- frames stay where nothing from low on changes
  pub home_content : (pr : Placed) (s : Area) (low : ℕ) (r t : ℕ → ℕ) (v : ℕ) → content pr s low r (home v) ≡ content pr s low t (home v)
  home_content pr s low r t v = by_rank (pr.rank v)
    where
      by_rank : (o : Option ℕ) → from_where s low r (slot_of pr.outs o) ≡ from_where s low t (slot_of pr.outs o)
      by_rank None = refl
      by_rank (Some j) = refl

  home_stays : (pr : Placed) (s s' : Area) (low : ℕ) (r : ℕ → ℕ) → ((q : ℕ) → low ≤ q → held s' q ≡ held s q) → (v : ℕ) → content pr s' low r (home v) ≡ content pr s low r (home v)
  home_stays pr s s' low r same v = by_rank (pr.rank v)
    where
      by_rank : (o : Option ℕ) → from_where s' low r (slot_of pr.outs o) ≡ from_where s low r (slot_of pr.outs o)
      by_rank None = refl
      by_rank (Some j) = same (low + 8 * (pr.outs + suc j)) (omega arith)

  waits_stay : (s s' : Area) (low ret : ℕ) (g : Frame) → ((q : ℕ) → low ≤ q → held s' q ≡ held s q) → (cells : List Cell) → Waits s low ret g cells → Waits s' low ret g cells
  waits_stay s s' low ret g same [] h = h
  waits_stay s s' low ret g same (cell ∷ cells) h = record {
    fits = h.fits;
    frame = h.frame;
    few = h.few;
    place = h.place;
    goes = λ x c homes arg. h.goes x c (λ v. homes v ∙ home_stays (proc_of l.procs g.proc) s s' low (λ n. 0) same v) arg;
  }

  pub callers_stay : (body : ℕ) (s s' : Area) (fs : List Frame) (low calls cells ret : ℕ) → ((q : ℕ) → low ≤ q → held s' q ≡ held s q) → Callers body s low calls cells ret fs → Callers body s' low calls cells ret fs
  callers_stay body s s' [] low calls cells ret same h = h
  callers_stay body s s' (g ∷ gs) low calls cells ret same h = (
    waits_stay s s' low ret g same (rest_of l.procs g) h.0,
    h.1,
    h.2,
    h.3,
    same (low + 8 * (proc_of l.procs g.proc).outs) (omega arith) ∙ h.4,
    h.5,
    above_stays l.frame s s' (low + 8 * slots_of (proc_of l.procs g.proc)) g.args (λ q le. same q (omega (arith, le))) h.6,
    callers_stay body s s' gs (low + 8 * slots_of (proc_of l.procs g.proc)) (calls + counts (proc_of l.procs g.proc)) (cells + (proc_of l.procs g.proc).cells) h.3 (λ q le. same q (omega (arith, le))) h.7,
  )

  -- the local data that the callers have
  pub callers_cells : (body : ℕ) (s : Area) (fs : List Frame) (low calls cells ret : ℕ) → Callers body s low calls cells ret fs → cells ≤ 1048576
  callers_cells body s [] low calls cells ret h = let e = h.3 in omega (arith, e)
  callers_cells body s (g ∷ gs) low calls cells ret h = let m = callers_cells body s gs (low + 8 * slots_of (proc_of l.procs g.proc)) (calls + counts (proc_of l.procs g.proc)) (cells + (proc_of l.procs g.proc).cells) h.3 h.7 in omega (arith, m)

  -- where they end
  pub callers_top : (body : ℕ) (s : Area) (fs : List Frame) (low calls cells ret : ℕ) → Callers body s low calls cells ret fs → low ≤ frames_base + frames_bytes l.frame
  callers_top body s [] low calls cells ret h = let e = h.0 in omega (arith, e)
  callers_top body s (g ∷ gs) low calls cells ret h = let e = h.2 in omega (arith, e)
