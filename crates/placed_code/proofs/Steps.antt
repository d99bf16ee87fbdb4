-- The steps of the flows in terms of placed procedures: what is left of a block is its cells.
use Rattle.std.proofs.Common.{◌≡◌, ℕ, zero, suc, ◌==◌, ◌&&◌, nat_lt, nat_le, List, [], ◌∷◌, map, length, get_or, Bool, Option, Some, None, refl, ap, ap₂, ◌∙◌}
use Rattle.std.specs.Prelude.{if◌then◌else◌, drop, slice_get, option_map}
use Rattle.run_laws.specs.Runs.{Step, Moves, Traps}
use Rattle.block_runs.specs.declared.end.End.{End}
use Rattle.block_runs.specs.declared.end.End.TheVariants.{Jump, Branch, Nonzero, Return, Trap}
use Rattle.block_runs.specs.Blocks.{Operation, CodeBlock, Procedure, procedure_of, bodies}
use Rattle.block_runs.specs.Blocks as flow
use Rattle.block_runs.specs.Compares.{compares}
use Rattle.block_runs.specs.States.{Frame, World, Starts, Enters, Runs, Works, Stop, Kind, Fault, In}
use Rattle.block_runs.specs.States.{State as Flow}
use Rattle.block_runs.specs.Effects.{Effect, Gives, Does, Calls, Begins, Fails, Faults, effect_of}
use Rattle.block_runs.specs.Points.{least, rest_least}
use Rattle.block_runs.specs.Steps.{set_all, behind, at_block, first_frame, taken, freed, resumed, begin, work_on}
use Rattle.block_runs.specs.Steps as flows
use Rattle.placed_code.specs.Placed.{Cell, Placed, operation, code_block, procedure, procedures, no_procedure, no_block, proc_of, block_of}

-- what is left of the block
abbrev pub rest_of : List Placed → Frame → List Cell
rest_of ps f = drop f.at (block_of (proc_of ps f.proc) f.block).body

abbrev pub ops_of : List Cell → List Operation
ops_of cells = map operation cells

-- the parameters of the first block
abbrev pub params_of : Placed → List ℕ
params_of pr = (flow.block_of (procedure pr) 0).params

---- Parts by number

get_mapped : {A B : Type 0} (f : A → B) (xs : List A) (n : ℕ) (d : A) → get_or (map f xs) n (f d) ≡ f (get_or xs n d)
get_mapped f [] n d = refl
get_mapped f (x ∷ xs) zero d = refl
get_mapped f (x ∷ xs) (suc n) d = get_mapped f xs n d

drop_mapped : {A B : Type 0} (f : A → B) (xs : List A) (n : ℕ) → drop n (map f xs) ≡ map f (drop n xs)
drop_mapped f [] zero = refl
drop_mapped f [] (suc n) = refl
drop_mapped f (x ∷ xs) zero = refl
drop_mapped f (x ∷ xs) (suc n) = drop_mapped f xs n

pub procedure_is : (ps : List Placed) (p : ℕ) → procedure_of (procedures ps) p ≡ procedure (proc_of ps p)
procedure_is ps p = get_mapped procedure ps p no_procedure

pub block_is : (pr : Placed) (b : ℕ) → flow.block_of (procedure pr) b ≡ code_block (block_of pr b)
block_is pr b = get_mapped code_block pr.blocks b no_block

pub rest_is : (ps : List Placed) (f : Frame) → flows.rest_of (procedures ps) f ≡ ops_of (rest_of ps f)
rest_is ps f =
    ap (λ (pr : Procedure). drop f.at (flow.block_of pr f.block).ops) (procedure_is ps f.proc)
    ∙ ap (λ (bl : CodeBlock). drop f.at bl.ops) (block_is (proc_of ps f.proc) f.block)
    ∙ drop_mapped operation (block_of (proc_of ps f.proc) f.block).body f.at

-- how many words a point has at least
pub least_is : (ps : List Placed) (p b i : ℕ) → least (procedures ps) (In p b i) ≡ rest_least (ops_of (drop i (block_of (proc_of ps p) b).body)) (block_of (proc_of ps p) b).end
least_is ps p b i =
    ap (λ (pr : Procedure). rest_least (drop i (flow.block_of pr b).ops) (flow.block_of pr b).end) (procedure_is ps p)
    ∙ ap (λ (bl : CodeBlock). rest_least (drop i bl.ops) bl.end) (block_is (proc_of ps p) b)
    ∙ ap (λ (ops : List Operation). rest_least ops (block_of (proc_of ps p) b).end) (drop_mapped operation (block_of (proc_of ps p) b).body i)

---- Steps

abbrev entered : Procedure → ℕ → List ℕ → List Frame → World → Step Flow Stop
entered pr p args fs w =
    if pr.counted && w.calls == 0 then Traps (Kind 8 p)
    else (if nat_lt w.cells pr.cells then Traps (Kind 9 p)
    else Moves [] (Runs (first_frame pr p args) fs (taken pr w)))

abbrev pub enter : List Placed → ℕ → List ℕ → List Frame → World → Step Flow Stop
enter ps p args fs w = entered (procedure (proc_of ps p)) p args fs w

abbrev pub goes_back : List Placed → List Frame → World → Option ℕ → Step Flow Stop
goes_back ps [] w x = Moves [] (Starts (record w { body = suc w.body }))
goes_back ps (g ∷ gs) w x = resumed (ops_of (rest_of ps g)) g gs w x

abbrev may : Procedure → ℕ → ℕ → List ℕ → Bool
may pr n p args = nat_lt p n && (pr.counted && nat_le (length (flow.block_of pr 0).params) (length args))

abbrev pub may_call : List Placed → ℕ → List ℕ → Bool
may_call ps p args = may (procedure (proc_of ps p)) (length ps) p args

abbrev pub called : List Placed → Option ℕ → List ℕ → Frame → List Frame → World → Step Flow Stop
called ps None args f fs w = Traps (Fault 0)
called ps (Some p) args f fs w = if may_call ps p args then Moves [] (Enters p args (f ∷ fs) w) else Traps (Fault p)

abbrev pub operate : List Placed → Operation → Frame → List Frame → World → Effect → Step Flow Stop
operate ps op f fs w (Gives x) = Moves [] (Runs (behind f op.def x) fs w)
operate ps op f fs w (Does bytes after x) = Moves bytes (Runs (behind f op.def x) fs after)
operate ps op f fs w (Calls p args) = called ps p args f fs w
operate ps op f fs w (Begins work) = Moves [] (Works work f fs w)
operate ps op f fs w (Fails kind) = Traps (Kind kind f.proc)
operate ps op f fs w (Faults at) = Traps (Fault at)

abbrev pub leave : List Placed → End → Frame → List Frame → World → Step Flow Stop
leave ps (Jump to args) f fs w = Moves [] (Runs (at_block f to (set_all (flow.block_of (procedure (proc_of ps f.proc)) to).params (map f.values args) f.values)) fs w)
leave ps (Branch cond a b one other) f fs w = Moves [] (Runs (at_block f (if compares cond (f.values a) (f.values b) then one else other) f.values) fs w)
leave ps (Nonzero a one other) f fs w = Moves [] (Runs (at_block f (if f.values a == 0 then other else one) f.values) fs w)
leave ps (Return a) f fs w = goes_back ps fs (freed (procedure (proc_of ps f.proc)) w) (option_map f.values a)
leave ps (Trap kind) f fs w = Traps (Kind kind f.proc)

abbrev pub perform : List Placed → (ℕ → ℕ) → List Cell → Frame → List Frame → World → Step Flow Stop
perform ps code [] f fs w = leave ps (block_of (proc_of ps f.proc) f.block).end f fs w
perform ps code (cell ∷ cells) f fs w = operate ps cell.op f fs w (effect_of code (length ps) f.args w cell.op.code (map f.values cell.op.uses))

abbrev pub step : List Placed → (ℕ → ℕ) → Flow → Step Flow Stop
step ps code (Starts w) = begin (slice_get (bodies (procedures ps)) w.body) w
step ps code (Enters p args fs w) = enter ps p args fs w
step ps code (Runs f fs w) = perform ps code (rest_of ps f) f fs w
step ps code (Works work f fs w) = work_on (ops_of (rest_of ps f)) work f fs w

---- They are the flows' steps

length_mapped : (ps : List Placed) → length (procedures ps) ≡ length ps
length_mapped [] = refl
length_mapped (p ∷ ps) = ap suc (length_mapped ps)

goes_back_is : (ps : List Placed) (fs : List Frame) (w : World) (x : Option ℕ) → flows.goes_back (procedures ps) fs w x ≡ goes_back ps fs w x
goes_back_is ps [] w x = refl
goes_back_is ps (g ∷ gs) w x = ap (λ (ops : List Operation). resumed ops g gs w x) (rest_is ps g)

called_is : (ps : List Placed) (p : Option ℕ) (args : List ℕ) (f : Frame) (fs : List Frame) (w : World) → flows.called (procedures ps) p args f fs w ≡ called ps p args f fs w
called_is ps None args f fs w = refl
called_is ps (Some p) args f fs w = ap₂ (λ (pr : Procedure) (n : ℕ). if may pr n p args then Moves [] (Enters p args (f ∷ fs) w) else Traps (Fault p)) (procedure_is ps p) (length_mapped ps)

operate_is : (ps : List Placed) (op : Operation) (f : Frame) (fs : List Frame) (w : World) (x : Effect) → flows.operate (procedures ps) op f fs w x ≡ operate ps op f fs w x
operate_is ps op f fs w (Gives x) = refl
operate_is ps op f fs w (Does bytes after x) = refl
operate_is ps op f fs w (Calls p args) = called_is ps p args f fs w
operate_is ps op f fs w (Begins work) = refl
operate_is ps op f fs w (Fails kind) = refl
operate_is ps op f fs w (Faults at) = refl

leave_is : (ps : List Placed) (end : End) (f : Frame) (fs : List Frame) (w : World) → flows.leave (procedures ps) end f fs w ≡ leave ps end f fs w
leave_is ps (Jump to args) f fs w = ap (λ (pr : Procedure). Moves [] (Runs (at_block f to (set_all (flow.block_of pr to).params (map f.values args) f.values)) fs w)) (procedure_is ps f.proc)
leave_is ps (Branch cond a b one other) f fs w = refl
leave_is ps (Nonzero a one other) f fs w = refl
leave_is ps (Return a) f fs w = ap (λ (pr : Procedure). flows.goes_back (procedures ps) fs (freed pr w) (option_map f.values a)) (procedure_is ps f.proc) ∙ goes_back_is ps fs (freed (procedure (proc_of ps f.proc)) w) (option_map f.values a)
leave_is ps (Trap kind) f fs w = refl

perform_is : (ps : List Placed) (code : ℕ → ℕ) (cells : List Cell) (f : Frame) (fs : List Frame) (w : World) → flows.perform (procedures ps) code (ops_of cells) f fs w ≡ perform ps code cells f fs w
perform_is ps code [] f fs w =
    ap (λ (pr : Procedure). flows.leave (procedures ps) (flow.block_of pr f.block).end f fs w) (procedure_is ps f.proc)
    ∙ ap (λ (bl : CodeBlock). flows.leave (procedures ps) bl.end f fs w) (block_is (proc_of ps f.proc) f.block)
    ∙ leave_is ps (block_of (proc_of ps f.proc) f.block).end f fs w
perform_is ps code (cell ∷ cells) f fs w =
    ap (λ n. flows.operate (procedures ps) cell.op f fs w (effect_of code n f.args w cell.op.code (map f.values cell.op.uses))) (length_mapped ps)
    ∙ operate_is ps cell.op f fs w (effect_of code (length ps) f.args w cell.op.code (map f.values cell.op.uses))

pub step_is : (ps : List Placed) (code : ℕ → ℕ) (s : Flow) → flows.step (procedures ps) code s ≡ step ps code s
step_is ps code (Starts w) = refl
step_is ps code (Enters p args fs w) = ap (λ (pr : Procedure). entered pr p args fs w) (procedure_is ps p)
step_is ps code (Runs f fs w) = ap (λ (ops : List Operation). flows.perform (procedures ps) code ops f fs w) (rest_is ps f) ∙ perform_is ps code (rest_of ps f) f fs w
step_is ps code (Works work f fs w) = ap (λ (ops : List Operation). work_on ops work f fs w) (rest_is ps f)
