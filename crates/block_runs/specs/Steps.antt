-- The steps of code in blocks.
use Rattle.std.specs.Prelude.{ℕ, suc, ◌+◌, ◌-◌, ◌==◌, ◌&&◌, nat_lt, nat_le, List, [], ◌∷◌, map, drop, length, slice_get, Bool, Option, Some, None, option_map, if◌then◌else◌}
use Rattle.run_laws.specs.Runs.{Step, Moves, Ends, Traps, System}
use Rattle.wrapping_numbers.specs.Numbers.{add64, sub64}
use Rattle.block_runs.specs.Compares.{compares}
use Rattle.a64_memory.specs.Memory.{Area, load1, load8, store1, store8}
use Rattle.block_runs.specs.declared.end.End.{End}
use Rattle.block_runs.specs.declared.end.End.TheVariants.{Jump, Branch, Nonzero, Return, Trap}
use Rattle.block_runs.specs.Blocks.{Operation, Procedure, block_of, procedure_of, bodies}
use Rattle.block_runs.specs.States.{Frame, World, Work, CopyHead, CopyCell, CopyTail, ZeroHead, ZeroCell, CompareHead, CompareCell, State, Starts, Enters, Runs, Works, Stop, Kind, Fault, Point, point}
use Rattle.block_runs.specs.Effects.{char_bytes, Effect, Gives, Does, Calls, Begins, Fails, Faults, effect_of}

---- Values

-- the values with x in v
abbrev pub set : (ℕ → ℕ) → ℕ → ℕ → ℕ → ℕ
set values v x u = if u == v then x else values u

-- with numbers in parameters, all at once: numbers are read before
abbrev pub set_all : List ℕ → List ℕ → (ℕ → ℕ) → ℕ → ℕ
set_all [] xs values = values
set_all (p ∷ ps) [] values = values
set_all (p ∷ ps) (x ∷ xs) values = set (set_all ps xs values) p x

-- with a number in what is defined, if anything is
abbrev pub define : Option ℕ → ℕ → (ℕ → ℕ) → ℕ → ℕ
define None x values = values
define (Some v) x values = set values v x

---- Frames

-- behind an operation that defines a value or none, and gave x
abbrev pub behind : Frame → Option ℕ → ℕ → Frame
behind f def x = record f { at = suc f.at; values = define def x f.values }

-- at the beginning of a block
abbrev pub at_block : Frame → ℕ → (ℕ → ℕ) → Frame
at_block f b values = record f { block = b; at = 0; values = values }

-- what is left of the block's operations
abbrev pub rest_of : List Procedure → Frame → List Operation
rest_of ps f = drop f.at (block_of (procedure_of ps f.proc) f.block).ops

-- what comes back is what the operation at which a frame waits defines, if it defines a value
abbrev pub answered : Frame → List Frame → World → Option ℕ → Option ℕ → Step State Stop
answered f fs w None x = Moves [] (Runs (behind f None 0) fs w)
answered f fs w (Some v) None = Traps (Fault v)
answered f fs w (Some v) (Some x) = Moves [] (Runs (behind f (Some v) x) fs w)

abbrev pub resumed : List Operation → Frame → List Frame → World → Option ℕ → Step State Stop
resumed [] f fs w x = Traps (Fault 0)
resumed (op ∷ ops) f fs w x = answered f fs w op.def x

---- Entry and return

-- the values at a procedure's entry: its first block's parameters are its first argument words
abbrev pub first_values : Procedure → List ℕ → ℕ → ℕ
first_values pr args = set_all (block_of pr 0).params args (λ v. 0)

abbrev pub first_frame : Procedure → ℕ → List ℕ → Frame
first_frame pr p args = record { proc = p; block = 0; at = 0; values = first_values pr args; args = args }

-- a call takes what its return gives back: a call, where calls of the procedure are counted, and its local data
abbrev pub one_if : Bool → ℕ
one_if b = if b then 1 else 0

abbrev pub taken : Procedure → World → World
taken pr w = record w { calls = w.calls - one_if pr.counted; cells = w.cells - pr.cells; local = add64 w.local pr.bytes }

abbrev pub freed : Procedure → World → World
freed pr w = record w { calls = w.calls + one_if pr.counted; cells = w.cells + pr.cells; local = sub64 w.local pr.bytes }

-- trap 8 where no call is left, and then trap 9 where the cells don't suffice
abbrev pub enter : List Procedure → ℕ → List ℕ → List Frame → World → Step State Stop
enter ps p args fs w =
    let pr = procedure_of ps p in
    if pr.counted && w.calls == 0 then Traps (Kind 8 p)
    else (if nat_lt w.cells pr.cells then Traps (Kind 9 p)
    else Moves [] (Runs (first_frame pr p args) fs (taken pr w)))

-- the caller goes on; a module's body has none, and the next body comes
abbrev pub goes_back : List Procedure → List Frame → World → Option ℕ → Step State Stop
goes_back ps [] w x = Moves [] (Starts (record w { body = suc w.body }))
goes_back ps (g ∷ gs) w x = resumed (rest_of ps g) g gs w x

-- a procedure whose calls are counted, with an argument word for each parameter
abbrev pub may_call : List Procedure → ℕ → List ℕ → Bool
may_call ps p args =
    let pr = procedure_of ps p in
    nat_lt p (length ps) && (pr.counted && nat_le (length (block_of pr 0).params) (length args))

abbrev pub called : List Procedure → Option ℕ → List ℕ → Frame → List Frame → World → Step State Stop
called ps None args f fs w = Traps (Fault 0)
called ps (Some p) args f fs w = if may_call ps p args then Moves [] (Enters p args (f ∷ fs) w) else Traps (Fault p)

---- Operations and ends

abbrev pub operate : List Procedure → Operation → Frame → List Frame → World → Effect → Step State Stop
operate ps op f fs w (Gives x) = Moves [] (Runs (behind f op.def x) fs w)
operate ps op f fs w (Does bytes after x) = Moves bytes (Runs (behind f op.def x) fs after)
operate ps op f fs w (Calls p args) = called ps p args f fs w
operate ps op f fs w (Begins work) = Moves [] (Works work f fs w)
operate ps op f fs w (Fails kind) = Traps (Kind kind f.proc)
operate ps op f fs w (Faults at) = Traps (Fault at)

abbrev pub leave : List Procedure → End → Frame → List Frame → World → Step State Stop
leave ps (Jump to args) f fs w = Moves [] (Runs (at_block f to (set_all (block_of (procedure_of ps f.proc) to).params (map f.values args) f.values)) fs w)
leave ps (Branch cond a b one other) f fs w = Moves [] (Runs (at_block f (if compares cond (f.values a) (f.values b) then one else other) f.values) fs w)
leave ps (Nonzero a one other) f fs w = Moves [] (Runs (at_block f (if f.values a == 0 then other else one) f.values) fs w)
leave ps (Return a) f fs w = goes_back ps fs (freed (procedure_of ps f.proc) w) (option_map f.values a)
leave ps (Trap kind) f fs w = Traps (Kind kind f.proc)

-- the next operation of a block or, behind the last, its end
abbrev pub perform : List Procedure → (ℕ → ℕ) → List Operation → Frame → List Frame → World → Step State Stop
perform ps code [] f fs w = leave ps (block_of (procedure_of ps f.proc) f.block).end f fs w
perform ps code (op ∷ ops) f fs w = operate ps op f fs w (effect_of code (length ps) f.args w op.code (map f.values op.uses))

---- The routines

-- bytes that were read go to an address
abbrev pub moved_to : Option (List Area) → ℕ → Work → Frame → List Frame → World → Step State Stop
moved_to None to on f fs w = Traps (Fault to)
moved_to (Some m) to on f fs w = Moves [] (Works on f fs (record w { memory = m }))

abbrev pub moved : (ℕ → ℕ → Option (List Area)) → ℕ → Option ℕ → ℕ → Work → Frame → List Frame → World → Step State Stop
moved store from None to on f fs w = Traps (Fault from)
moved store from (Some x) to on f fs w = moved_to (store to x) to on f fs w

-- the character of a text at a position, 0 behind its bytes
abbrev pub char_at : List Area → ℕ → ℕ → ℕ → Option ℕ
char_at m x bytes done = if nat_le bytes done then Some 0 else load1 m (add64 x done)

-- two characters at one position: where they are the same and not 0, the next position; else their difference is the answer
abbrev pub compared : List Operation → (x m y n done : ℕ) → Frame → List Frame → World → Option ℕ → Option ℕ → Step State Stop
compared rest x m y n done f fs w None b = Traps (Fault x)
compared rest x m y n done f fs w (Some a) None = Traps (Fault y)
compared rest x m y n done f fs w (Some a) (Some b) =
    if a == b && nat_lt 0 a then Moves [] (Works (CompareCell x m y n (add64 done char_bytes)) f fs w)
    else resumed rest f fs w (Some (sub64 a b))

-- what is left of the block behind the routine's operation is where it goes back. Copy moves eight bytes at a time as long as so many are left, and then one at a time; Zero makes eight zero at a time;
-- Compare looks at one character of each text at a time
abbrev pub work_on : List Operation → Work → Frame → List Frame → World → Step State Stop
work_on rest (CopyHead to from bytes) f fs w = Moves [] (Works (CopyCell to from bytes 0) f fs w)
work_on rest (CopyCell to from bytes done) f fs w =
    if nat_lt bytes (add64 done 8) then Moves [] (Works (CopyTail to from bytes done) f fs w)
    else moved (store8 w.memory) (add64 from done) (load8 w.memory (add64 from done)) (add64 to done) (CopyCell to from bytes (add64 done 8)) f fs w
work_on rest (CopyTail to from bytes done) f fs w =
    if nat_le bytes done then resumed rest f fs w None
    else moved (store1 w.memory) (add64 from done) (load1 w.memory (add64 from done)) (add64 to done) (CopyTail to from bytes (add64 done 1)) f fs w
work_on rest (ZeroHead to bytes) f fs w = Moves [] (Works (ZeroCell to bytes 0) f fs w)
work_on rest (ZeroCell to bytes done) f fs w =
    if nat_le bytes done then resumed rest f fs w None
    else moved_to (store8 w.memory (add64 to done) 0) (add64 to done) (ZeroCell to bytes (add64 done 8)) f fs w
work_on rest (CompareHead x m y n) f fs w = Moves [] (Works (CompareCell x m y n 0) f fs w)
work_on rest (CompareCell x m y n done) f fs w = compared rest x m y n done f fs w (char_at w.memory x m done) (char_at w.memory y n done)

---- The system

-- the next module's body is entered with no argument words; behind the last one it ends
abbrev pub begin : Option ℕ → World → Step State Stop
begin None w = Ends
begin (Some p) w = Moves [] (Enters p [] [] w)

abbrev pub step : List Procedure → (ℕ → ℕ) → State → Step State Stop
step ps code (Starts w) = begin (slice_get (bodies ps) w.body) w
step ps code (Enters p args fs w) = enter ps p args fs w
step ps code (Runs f fs w) = perform ps code (rest_of ps f) f fs w
step ps code (Works work f fs w) = work_on (rest_of ps f) work f fs w

-- the system of some procedures, where code p is the address of procedure p's code
abbrev pub block_system : List Procedure → (ℕ → ℕ) → System State Stop Point
block_system ps code = record { step = step ps code; at = point }
