-- That the lines so far simulate the trace's rest.
use Rattle.std.specs.Prelude.{◌≡◌, ◌≢◌, ◌⊎◌, ℕ, ◌+◌, ◌<◌, ◌≤◌, ◌==◌, Bool, true, false, cond, List, [], ◌∷◌, ◌++◌, length, map, drop, Option, Some, None, option_to_list, slice_get}
use Rattle.block_runs.specs.Blocks.{Operation}
use Rattle.block_runs.specs.Live.{has}
use Rattle.block_runs.specs.Valid.{is_call}
use Rattle.block_runs.specs.declared.end.End.{End}
use Rattle.lir_core.specs.declared.flow.Node.{Node}
use Rattle.lir_core.specs.declared.flow.Flow.{Flow}
use Rattle.lir_core.specs.declared.places.Places.{Places}
use Rattle.lir_core.specs.declared.places.Line.{Line}
use Rattle.lir_core.specs.Flows.{operation_of}
use Rattle.lir_core.specs.Spots.{Spot, reg, home, out, target, saved, get, in_register, IsSingle}
use Rattle.lir_core.specs.Lines.{is_aimed, slots_used, end_reads, Room, AllBelow}
use Rattle.lir_core.specs.Walks.{Walker, Passes, Finishes, Below, Walks, walk}
use Rattle.loc_state.specs.Walked.{Task, task, Apart}
use Rattle.loc_state.specs.Registers.{register_of}
use Rattle.loc_back.specs.declared.part.Begun.{Begun}
use Rattle.loc_back.specs.declared.part.Loading.{Loading}
use Rattle.loc_back.specs.declared.part.Stage.{Stage}
use Rattle.loc_back.specs.declared.part.Stage.TheVariants.{Behind, End as AtEnd, Operation as Within, Done}
use Rattle.loc_back.specs.declared.part.BackPart.{BackPart}
use Rattle.loc_back.specs.declared.backward.Backward.{Backward}
use Rattle.loc_back.specs.Marks.{at_start, at_end}
use Rattle.loc_back.specs.Steps.{if_homed, passed}

---- A node

-- a node: its operations, what its end reads in registers, and the values whose homes are marked at its start and at its end, where they are homed
pub record Section : Type 0 where
  pub ops : List Operation
  pub last : List ℕ
  pub before : List ℕ
  pub after : List ℕ

-- a value lives before some operations: they read it, or it lives behind them, and none makes it before
abbrev pub lives : List Operation → List ℕ → ℕ → Bool
lives [] after v = has after v
lives (op ∷ ops) after v = cond (has op.uses v) true (cond (has (option_to_list op.def) v) false (lives ops after v))

abbrev pub lives_from : Section → ℕ → ℕ → Bool
lives_from b n v = lives (drop n b.ops) b.after v

---- What is wanted

-- what must stand where: the registers' values, and the homes of marked values that live
abbrev pub wanted : (ℕ → Bool) → (ℕ → Bool) → List (Option ℕ) → Spot → Option ℕ
wanted marks alive regs (reg r) = get regs r
wanted marks alive regs (home v) = cond (alive v) (cond (marks v) (Some v) None) None
wanted marks alive regs (out s) = None
wanted marks alive regs target = None
wanted marks alive regs saved = None

-- a walk takes the lines and ends as the node does
abbrev pub Leads : Room → Section → Places → List Line → Walker → Type 0
Leads room b end lines w = Passes room b.ops lines w × Finishes room.regs b.ops b.last end (walk b.ops lines w)

-- the lines lead to the node's end from wherever what is wanted stands before the n-th operation
abbrev pub Serves : Room → Section → Places → List Line → List ℕ → ℕ → (Spot → Option ℕ) → Type 0
Serves room b end lines named n view = (w : Walker) → w.next ≡ n → w.named ≡ named → Below view w.view → Leads room b end lines w

-- the homes that are marked at the end of the walk: what is homed stays, and no other value that is made already joins
pub record Extends (made homed : List ℕ) (marks : ℕ → Bool) : Type 0 where
  pub grown : (v : ℕ) → has homed v ≡ true → marks v ≡ true
  pub frozen : (v : ℕ) → has made v ≡ true → marks v ≡ true → has homed v ≡ true

-- of some values those that are marked
abbrev pub AreMarked : (ℕ → Bool) → List ℕ → List ℕ → Type 0
AreMarked marks vs homed = (v : ℕ) → has homed v ≡ cond (has vs v) (marks v) false

abbrev pub with_homed : List (Option ℕ) → List ℕ → Places
with_homed regs homed = record { regs = regs; homed = homed }

-- whatever is marked in the end, the lines serve
abbrev pub Serving : Room → Section → List ℕ → List ℕ → List (Option ℕ) → List Line → List ℕ → ℕ → List (Option ℕ) → Type 0
Serving room b made homed end lines named n regs =
    (marks : ℕ → Bool) → Extends made homed marks → (homes : List ℕ) → AreMarked marks b.after homes
    → Serves room b (with_homed end homes) lines named n (wanted marks (lives_from b n) regs)

---- A walk so far

-- the nodes that are walked, the one that is being walked, and the values that are made from there on
pub record Route : Type 0 where
  pub room : Room
  pub done : List Section
  pub here : Section
  pub made : List ℕ

-- a value may be homed: it isn't made yet, or it is homed already
abbrev pub MayBeHomed : List ℕ → List ℕ → ℕ → Type 0
MayBeHomed made homed v = has made v ≡ true → has homed v ≡ true

-- a row of registers with values of the flow that may be homed, none in two
pub record IsStanding (x : Route) (homed : List ℕ) (regs : List (Option ℕ)) : Type 0 where
  pub size : length regs ≡ x.room.regs
  pub single : IsSingle regs
  pub values : (r v : ℕ) → get regs r ≡ Some v → v < x.room.values
  pub free : (r v : ℕ) → get regs r ≡ Some v → MayBeHomed x.made homed v

-- all that is written serves from the n-th operation on
pub record Backed (x : Route) (n : ℕ) (t : BackPart) : Type 0 where
  pub row : IsStanding x t.homed t.regs
  pub living : (r v : ℕ) → get t.regs r ≡ Some v → lives_from x.here n v ≡ true
  pub serves : Serving x.room x.here x.made t.homed t.end t.lines t.named n t.regs

-- registers noted have the values noted
pub record AreNoted (x : Route) (noted : List ℕ) (t : BackPart) : Type 0 where
  pub below : AllBelow x.room.regs t.noted
  pub used : map (get t.regs) t.noted ≡ map Some noted

-- at an end
pub record IsEnding (x : Route) (noted : List ℕ) (t : BackPart) : Type 0 where
  pub row : IsStanding x t.homed t.regs
  pub living : (r v : ℕ) → get t.regs r ≡ Some v → has x.here.after v ≡ true
  pub are_noted : AreNoted x noted t
  pub lines : t.lines ≡ []
  pub named : t.named ≡ []
  pub loads : t.loads ≡ []

---- Within an operation

abbrev pub or_first : Option ℕ → Option ℕ → Option ℕ
or_first None o = o
or_first (Some v) o = Some v

-- the value that the last of the loads gives a register
abbrev pub loaded : List Loading → ℕ → Option ℕ
loaded [] r = None
loaded (l ∷ ls) r = or_first (loaded ls r) (cond (r == l.reg) (Some l.value) None)

-- where a register's value behind an operation comes from: a load, the definition, or the same register before
abbrev pub ComesFrom : Option ℕ → Option ℕ → Option ℕ → List (Option ℕ) → ℕ → ℕ → Type 0
ComesFrom (Some u) place def before r v = u ≡ v
ComesFrom None place def before r v = ((place ≡ Some r) × (def ≡ Some v)) ⊎ ((place ≢ Some r) × (get before r ≡ Some v) × (def ≢ Some v))

-- loads of values that live behind and are marked, not of the definition
abbrev pub AllLoads : Room → (ℕ → Bool) → (ℕ → Bool) → Option ℕ → List Loading → Type 0
AllLoads room alive marks def [] = Unit {0}
AllLoads room alive marks def (l ∷ ls) = (l.reg < room.regs) × (l.value < room.values) × (alive l.value ≡ true) × (marks l.value ≡ true) × (def ≢ Some l.value) × AllLoads room alive marks def ls

-- a definition has a register, and nothing else has
abbrev pub IsMadeIn : Room → Option ℕ → Option ℕ → Type 0
IsMadeIn room None None = Unit {0}
IsMadeIn room (Some d) (Some r) = (r < room.regs) × (d < room.values)
IsMadeIn room _ _ = ⊥

abbrev pub stored_of : List ℕ → Option ℕ → Option ℕ
stored_of homed None = None
stored_of homed (Some d) = if_homed homed d

-- a register's value before an operation lives behind it and stays there, or is one of the uses noted
abbrev pub Origin : Section → ℕ → Operation → Option ℕ → BackPart → ℕ → ℕ → Type 0
Origin b n op place t r v = ((lives_from b (n + 1) v ≡ true) × (op.def ≢ Some v) × (loaded t.loads r ≡ None) × (place ≢ Some r)) ⊎ (has t.noted r ≡ true)

-- the n-th operation is begun
pub record IsOpen (x : Route) (n : ℕ) (op : Operation) (noted : List ℕ) (b : Begun) (t : BackPart) : Type 0 where
  pub now : List (Option ℕ)
  pub index : b.index ≡ n
  pub there : slice_get x.here.ops n ≡ Some op
  pub plain : is_call op.code ≡ false
  pub place : IsMadeIn x.room op.def b.reg
  pub stored : b.stored ≡ stored_of t.homed op.def
  pub is_made : (d : ℕ) → op.def ≡ Some d → has x.made d ≡ true
  pub serves : Serving x.room x.here x.made t.homed t.end t.lines t.named (n + 1) now
  pub row : IsStanding x t.homed t.regs
  pub are_noted : AreNoted x noted t
  pub comes : (r v : ℕ) → get now r ≡ Some v → ComesFrom (loaded t.loads r) b.reg op.def t.regs r v
  pub fit : AllLoads x.room (lives_from x.here (n + 1)) (has t.homed) op.def t.loads
  pub origin : (r v : ℕ) → get t.regs r ≡ Some v → Origin x.here n op b.reg t r v

---- The whole

-- before a node is entered there is nothing
pub record IsBehind (x : Route) (noted : List ℕ) (t : BackPart) : Type 0 where
  pub row : IsStanding x t.homed t.regs
  pub empty : (r v : ℕ) → get t.regs r ≡ Some v → ⊥
  pub none : noted ≡ []
  pub lines : t.lines ≡ []
  pub named : t.named ≡ []
  pub loads : t.loads ≡ []
  pub unnoted : t.noted ≡ []

-- the uses of what is begun
abbrev pub uses_at : Option Operation → List ℕ
uses_at None = []
uses_at (Some op) = op.uses

abbrev pub due : Route → ℕ → Stage → List ℕ
due x n Behind = []
due x n AtEnd = x.here.last
due x n (Within b) = uses_at (slice_get x.here.ops n)
due x n Done = []

-- where the walk is: from the n-th operation on, with the uses noted of what is begun
abbrev pub IsAt : Route → ℕ → List ℕ → Stage → BackPart → Type 0
IsAt x n noted Behind t = IsBehind x noted t
IsAt x n noted AtEnd t = (n ≡ length x.here.ops) × IsEnding x noted t
IsAt x n noted (Within b) t = (op : Operation) × IsOpen x n op noted b t
IsAt x n noted Done t = (noted ≡ []) × (t.noted ≡ []) × (t.loads ≡ []) × Backed x n t

-- a node that is walked: whatever is marked in the end, the walk accepts its lines
abbrev pub IsServed : Room → (ℕ → Bool) → Section → Places → List Line → List ℕ → Places → Type 0
IsServed room marks b s l r e = (first last : List ℕ) → AreMarked marks b.before first → AreMarked marks b.after last → Walks room b.ops b.last (with_homed s.regs first) l r (with_homed e.regs last)

abbrev pub AllServed : Room → (ℕ → Bool) → List Section → List Places → List (List Line) → List (List ℕ) → List Places → Type 0
AllServed room marks [] [] [] [] [] = Unit {0}
AllServed room marks (b ∷ bs) (s ∷ ss) (l ∷ ls) (r ∷ rs) (e ∷ es) = IsServed room marks b s l r e × AllServed room marks bs ss ls rs es
AllServed room marks _ _ _ _ _ = ⊥

abbrev pub AreServed : Route → List ℕ → Backward → Type 0
AreServed x homed f = (marks : ℕ → Bool) → Extends x.made homed marks → AllServed x.room marks x.done f.starts f.lines f.regs f.ends

pub record Simulates (x : Route) (n : ℕ) (noted : List ℕ) (f : Backward) : Type 0 where
  pub behind : AreServed x f.part.homed f
  pub here : IsAt x n noted f.part.stage f.part

---- Conditions

-- a value has a register: it is in one, or the one that is given is empty
abbrev pub CanTake : ℕ → Option ℕ → BackPart → Type 0
CanTake v None t = get t.regs (register_of v t.regs) ≡ Some v
CanTake v (Some r) t = (r < length t.regs) × (get t.regs r ≡ None) × (in_register t.regs v ≡ false)

-- a definition goes to its own register, if it has one
abbrev pub IsOwn : Option ℕ → Option ℕ → List (Option ℕ) → Type 0
IsOwn None place regs = Unit {0}
IsOwn (Some d) place regs = (r : ℕ) → get regs r ≡ Some d → place ≡ Some r

-- an operation that isn't a call can be begun
pub record CanDefine (x : Route) (op : Operation) (reg : Option ℕ) (t : BackPart) : Type 0 where
  pub plain : is_call op.code ≡ false
  pub given : IsMadeIn x.room op.def reg
  pub own : IsOwn op.def reg t.regs

abbrev pub with_def : Option ℕ → Route → Route
with_def def x = record x { made = option_to_list def ++ x.made }

-- the registers that a call's uses are given: one for each value, to no two values the same
pub record AreGiven (k : ℕ) (us : List ℕ) (args : List (Option ℕ)) : Type 0 where
  pub place : ℕ → Option ℕ
  pub args_are : args ≡ map place us
  pub apart : (u w r : ℕ) → place u ≡ Some r → place w ≡ Some r → u ≡ w
  pub below : (u r : ℕ) → place u ≡ Some r → r < k

-- a call can be made
pub record CanCall (x : Route) (op : Operation) (args : List (Option ℕ)) (homed : List ℕ) : Type 0 where
  pub call : is_call op.code ≡ true
  pub aimed : is_aimed op.code ≡ true → 1 ≤ length op.uses
  pub enough : 4 ≤ x.room.regs
  pub slots : slots_used op ≤ x.room.slots
  pub result : (d : ℕ) → op.def ≡ Some d → d < x.room.values
  pub given : AreGiven x.room.regs op.uses args
  pub below : (u : ℕ) → has op.uses u ≡ true → u < x.room.values
  pub free : (u : ℕ) → has op.uses u ≡ true → MayBeHomed (option_to_list op.def ++ x.made) homed u

-- uses can be taken at an end and within an operation
abbrev pub IsTaking : Stage → Type 0
IsTaking AtEnd = Unit {0}
IsTaking (Within b) = Unit {0}
IsTaking _ = ⊥

-- a node is entered
abbrev pub IsEntered : Stage → Type 0
IsEntered Behind = ⊥
IsEntered _ = Unit {0}

-- a value can be taken
pub record MayTake (x : Route) (v : ℕ) (reg : Option ℕ) (t : BackPart) : Type 0 where
  pub taking : IsTaking t.stage
  pub can : CanTake v reg t
  pub below : v < x.room.values
  pub free : MayBeHomed x.made t.homed v
  pub lives : t.stage ≡ AtEnd → has x.here.after v ≡ true

-- a register can be emptied: it is one of the row's, and isn't noted
pub record MayEvict (reg : ℕ) (t : BackPart) : Type 0 where
  pub taking : IsTaking t.stage
  pub in_row : reg < length t.regs
  pub apart : Apart reg t.noted

-- the node before can be entered, a section whose end this is, from the start of one with these parameters
pub record CanEnter (x : Route) (b : Section) (params : List ℕ) (end : End) (homes : List ℕ) (homed : List ℕ) : Type 0 where
  pub starts : (v : ℕ) → lives_from x.here 0 v ≡ true → has x.here.before v ≡ true
  pub goes_on : (v : ℕ) → lives_from x.here 0 v ≡ true → has params v ≡ false → has b.after v ≡ true
  pub passes : (v : ℕ) → has (passed end) v ≡ true → has b.after v ≡ true
  pub below : (v : ℕ) → has (passed end) v ≡ true → v < x.room.values
  pub free : (v : ℕ) → has (passed end) v ≡ true → MayBeHomed (params ++ x.made) homed v
  pub joins : (v : ℕ) → has homes v ≡ true → MayBeHomed (params ++ x.made) homed v

abbrev pub walked : Stage → Route → List Section
walked Behind x = x.done
walked _ x = x.here ∷ x.done

-- from the start of a node with these parameters on to the end of another
abbrev pub onward : Stage → Section → List ℕ → Route → Route
onward st b params x = record { room = x.room; done = walked st x; here = b; made = params ++ x.made }

---- A trace

-- a node of a flow as a section, by rows of what is live
abbrev pub section_of : ℕ → List (List ℕ) → ℕ → Option Node → Section
section_of values rows n None = record { ops = []; last = []; before = at_start values rows n None; after = at_end values rows None }
section_of values rows n (Some node) = record { ops = map operation_of node.lirs; last = end_reads node.end; before = at_start values rows n (Some node); after = at_end values rows (Some node) }

abbrev pub sections : Flow → List (List ℕ) → List ℕ → List Section
sections f rows [] = []
sections f rows (n ∷ ns) = section_of f.values rows n (slice_get f.nodes n) ∷ sections f rows ns

abbrev pub tasks : List Section → List Task
tasks [] = []
tasks (b ∷ bs) = task b.ops b.last ∷ tasks bs

-- all nodes of a trace are walked back to its first node's start
pub record IsWhole (f : Flow) (rows : List (List ℕ)) (ns : List ℕ) (x : Route) (t : BackPart) : Type 0 where
  pub nodes : sections f rows ns ≡ walked t.stage x
  pub starts : (v : ℕ) → lives_from x.here 0 v ≡ true → has x.here.before v ≡ true
