-- The words of copies, operations, entries and ends.
use Rattle.std.specs.Prelude.{ℕ, suc, ◌+◌, ◌-◌, ◌*◌, ◌/◌, ◌%◌, ◌^◌, ◌==◌, nat_lt, ◌&&◌, not, Bool, true, false, List, [], ◌∷◌, ◌++◌, map, length, Option, Some, None, if◌then◌else◌}
use Rattle.size_limits.specs.Limits.{most_slots}
use Rattle.a64_numbers.specs.Branches.{branch_field}
use Rattle.a64_numbers.specs.Moves.{half, constant_moves}
use Rattle.a64_numbers.specs.declared.moves.Move.{Move}
use Rattle.a64_numbers.specs.declared.moves.Move.TheVariants as m
use Rattle.a64_numbers.specs.Conditions.{opposite}
use Rattle.a64_instr.specs.declared.instr.Shift.TheVariants.{Lsl, Asr}
use Rattle.a64_instr.specs.declared.instr.Cond.{Cond}
use Rattle.a64_instr.specs.declared.instr.Cond.TheVariants.{Eq, Ne, Hs, Lo, Ls, Ge, Gt}
use Rattle.a64_instr.specs.declared.instr.Instr.{Instr}
use Rattle.a64_instr.specs.declared.instr.Instr.TheVariants as i
use Rattle.a64_table.specs.Decode.{cond_of}
use Rattle.a64_machine.specs.State.{address_of}
use Rattle.a64_runtime.specs.Routines.{against, copy_words, zero_words}
use Rattle.block_runs.specs.declared.code.Code.{Code}
use Rattle.block_runs.specs.declared.code.Code.TheVariants as o
use Rattle.block_runs.specs.declared.end.End.{End}
use Rattle.block_runs.specs.declared.end.End.TheVariants.{Jump, Branch, Nonzero, Return, Trap}
use Rattle.lir_core.specs.Spots.{Spot, reg, home, out, target, saved}
use Rattle.placed_code.specs.Placed.{Copy, Placed}

---- Copies

-- a register, or a slot of the frame
pub data Where : Type 0 where
  InReg : ℕ → Where
  InSlot : ℕ → Where

-- slots for arguments of calls, then the link, then homes
abbrev pub slot_of : ℕ → Option ℕ → Option Where
slot_of outs None = None
slot_of outs (Some j) = Some (InSlot (outs + suc j))

abbrev pub where_is : Placed → Spot → Option Where
where_is pr (reg r) = if nat_lt r 16 then Some (InReg r) else None
where_is pr (home v) = slot_of pr.outs (pr.rank v)
where_is pr saved = Some (InReg 16)
where_is pr (out s) = if nat_lt s pr.outs then Some (InSlot s) else None
where_is pr target = Some (InReg 25)

-- the field of one word reaches so many slots
abbrev pub near_slots : ℕ
near_slots = 2 ^ 12

abbrev pub is_near : ℕ → Bool
is_near j = nat_lt j near_slots

-- how many words reach a slot
abbrev pub reach : ℕ → ℕ
reach j = if is_near j then 1 else 2

-- so many slots have 4,096 bytes: for a far slot X26 becomes the place of those bytes of the frame among which the slot lies
abbrev pub page_slots : ℕ
page_slots = 512

abbrev pub page_word : ℕ → Instr
page_word j = i.AddImm 26 31 (j / page_slots) true

-- register d from slot j, and slot j from register s
abbrev pub load_slot : ℕ → ℕ → List Instr
load_slot d j = if is_near j then (i.Ldr d 31 j ∷ []) else (page_word j ∷ i.Ldr d 26 (j % page_slots) ∷ [])

abbrev pub store_slot : ℕ → ℕ → List Instr
store_slot s j = if is_near j then (i.Str s 31 j ∷ []) else (page_word j ∷ i.Str s 26 (j % page_slots) ∷ [])

abbrev pub move : Where → Where → List Instr
move (InReg d) (InReg s) = i.OrrReg d 31 s Lsl 0 ∷ []
move (InReg d) (InSlot j) = load_slot d j
move (InSlot j) (InReg s) = store_slot s j
move (InSlot j) (InSlot k) = load_slot 17 k ++ store_slot 17 j

abbrev pub move_between : Option Where → Option Where → List Instr
move_between None _ = []
move_between (Some to) None = []
move_between (Some to) (Some from) = move to from

abbrev pub copy_word : Placed → Copy → List Instr
copy_word pr m = move_between (where_is pr m.to) (where_is pr m.from)

abbrev pub copies_words : Placed → List Copy → List Instr
copies_words pr [] = []
copies_words pr (m ∷ ms) = copy_word pr m ++ copies_words pr ms

abbrev pub slots_of : Placed → ℕ
slots_of pr = pr.outs + (1 + pr.homes)

abbrev pub frame_of : Placed → ℕ
frame_of pr = 8 * slots_of pr

-- how many bytes a frame has at most
abbrev pub most_frame : ℕ
most_frame = 8 * most_slots

---- Operations

abbrev pub move_word : ℕ → Move → Instr
move_word d (m.Movz n j) = i.Movz d n j
move_word d (m.Movn n j) = i.Movn d n j
move_word d (m.Movk n j) = i.Movk d n j

-- SUBS of a register and a number, whose difference is dropped
abbrev pub tests : ℕ → ℕ → Instr
tests a n = i.SubsImm 31 a n false

-- where the condition holds, the BRK isn't met
abbrev pub breaks_unless : Cond → ℕ → List Instr
breaks_unless c n = i.BCond 2 c ∷ i.Brk n ∷ []

-- level j of the descriptor at a against the descriptor b
abbrev pub level_words : ℕ → ℕ → ℕ → List Instr
level_words j a b = i.Ldr 16 a j ∷ against 16 b ∷ []

-- BL from word k to word t
abbrev pub calls_at : ℕ → ℕ → List Instr
calls_at k t = i.Bl (branch_field 26 (address_of k) (address_of t)) ∷ []

-- the words of an operation, of which the first is word k, with the registers a, b, c of its uses and d of its definition; procedure
-- p begins at word entry p, the routines begin at word start, and the frame has so many slots
abbrev pub op_words : (ℕ → ℕ) → (start slots k : ℕ) → Code → (a b c d : ℕ) → List Instr
op_words entry start slots k (o.Const n) a b c d = map (move_word d) (constant_moves n)
op_words entry start slots k (o.Global n) a b c d = i.AddImm d 24 (n / 2 ^ 12) true ∷ i.AddImm d d (n % 2 ^ 12) false ∷ []
op_words entry start slots k (o.Local n) a b c d = i.SubImm d 19 (n / 2 ^ 12) true ∷ i.SubImm d d (n % 2 ^ 12) false ∷ []
op_words entry start slots k (o.Plus n) a b c d = i.AddImm d a (n / 2 ^ 12) true ∷ i.AddImm d d (n % 2 ^ 12) false ∷ []
op_words entry start slots k (o.Code p) a b c d = i.Movz d (half (address_of (entry p)) 0) 0 ∷ i.Movk d (half (address_of (entry p)) 1) 1 ∷ []
op_words entry start slots k (o.Arg n) a b c d = load_slot d (slots + (n - 4))
op_words entry start slots k o.Load a b c d = i.Ldr d a 0 ∷ []
op_words entry start slots k o.Store a b c d = i.Str b a 0 ∷ []
op_words entry start slots k o.LoadByte a b c d = i.Ldrb d a 0 ∷ []
op_words entry start slots k o.StoreByte a b c d = i.Strb b a 0 ∷ []
op_words entry start slots k o.Add a b c d = i.AddReg d a b Lsl 0 ∷ []
op_words entry start slots k o.Sub a b c d = i.SubReg d a b Lsl 0 ∷ []
op_words entry start slots k o.And a b c d = i.AndReg d a b Lsl 0 ∷ []
op_words entry start slots k o.Or a b c d = i.OrrReg d a b Lsl 0 ∷ []
op_words entry start slots k o.Eor a b c d = i.EorReg d a b Lsl 0 ∷ []
op_words entry start slots k o.Bic a b c d = i.BicReg d a b Lsl 0 ∷ []
op_words entry start slots k o.Lsl a b c d = i.Lslv d a b ∷ []
op_words entry start slots k o.Asr a b c d = i.Asrv d a b ∷ []
op_words entry start slots k o.Ror a b c d = i.Rorv d a b ∷ []
op_words entry start slots k o.Mul a b c d = i.Madd d a b 31 ∷ []
op_words entry start slots k o.MulAdd a b c d = i.Madd d a b c ∷ []
op_words entry start slots k o.Neg a b c d = i.SubReg d 31 a Lsl 0 ∷ []
op_words entry start slots k o.Not a b c d = i.OrnReg d 31 a Lsl 0 ∷ []
op_words entry start slots k o.Abs a b c d = tests a 0 ∷ i.Csneg d a a Ge ∷ []
op_words entry start slots k o.Max0 a b c d = tests a 0 ∷ i.Csel d a 31 Ge ∷ []
op_words entry start slots k o.Odd a b c d = i.Movz 16 1 0 ∷ i.AndReg d a 16 Lsl 0 ∷ []
op_words entry start slots k (o.Set n) a b c d = against a b ∷ i.Csinc d 31 31 (opposite (cond_of n)) ∷ []
op_words entry start slots k o.Flip a b c d = tests a 0 ∷ i.Csinc d 31 31 Ne ∷ []
op_words entry start slots k o.Bit a b c d = i.Movz 16 1 0 ∷ i.Lslv d 16 a ∷ []
op_words entry start slots k o.Span a b c d =
    i.Movn 16 0 0 ∷ i.Lslv 16 16 a ∷ i.Movz 17 63 0 ∷ i.SubReg 17 17 b Lsl 0 ∷ i.Movn d 0 0 ∷ i.Lsrv d d 17 ∷ i.AndReg d d 16 Lsl 0 ∷ []
op_words entry start slots k o.Has a b c d = i.Lsrv 16 b a ∷ i.Movz 17 1 0 ∷ i.AndReg d 16 17 Lsl 0 ∷ []
op_words entry start slots k o.Div a b c d = tests b 0 ∷ i.BCond 2 Gt ∷ i.Brk 4 ∷ i.Sdiv 16 a b ∷ i.Msub 17 16 b a ∷ i.AddReg d 16 17 Asr 63 ∷ []
op_words entry start slots k o.Mod a b c d = tests b 0 ∷ i.BCond 2 Gt ∷ i.Brk 4 ∷ i.Sdiv 16 a b ∷ i.Msub 16 16 b a ∷ i.AndReg 17 b 16 Asr 63 ∷ i.AddReg d 16 17 Lsl 0 ∷ []
op_words entry start slots k o.Below a b c d = against a b ∷ breaks_unless Lo 1
op_words entry start slots k o.Fits a b c d = against a b ∷ breaks_unless Ls 12
op_words entry start slots k o.Byte a b c d = tests a 255 ∷ breaks_unless Ls 11
op_words entry start slots k o.Elem a b c d = tests a 63 ∷ breaks_unless Ls 7
op_words entry start slots k o.NotNil a b c d = i.Cbnz a 2 ∷ i.Brk 2 ∷ []
op_words entry start slots k o.True a b c d = i.Cbnz a 2 ∷ i.Brk 5 ∷ []
op_words entry start slots k (o.IsPtr j) a b c d = i.Movz 16 0 0 ∷ i.Cbz a 3 ∷ i.Ldr 16 a 0 ∷ level_words j 16 b ++ i.Csinc d 31 31 Ne ∷ []
op_words entry start slots k (o.IsTag j) a b c d = level_words j a b ++ i.Csinc d 31 31 Ne ∷ []
op_words entry start slots k (o.GuardPtr j) a b c d = i.Cbnz a 2 ∷ i.Brk 2 ∷ i.Ldr 16 a 0 ∷ level_words j 16 b ++ breaks_unless Eq 3
op_words entry start slots k (o.GuardTag j) a b c d = level_words j a b ++ breaks_unless Eq 3
op_words entry start slots k o.New a b c d =
    against 22 a ∷ i.BCond 2 Hs ∷ i.Brk 10 ∷ i.SubReg 22 22 a Lsl 0 ∷ i.Str c 21 0 ∷ i.OrrReg 16 31 21 Lsl 0 ∷ i.AddReg 21 21 b Lsl 0 ∷ i.OrrReg d 31 16 Lsl 0 ∷ []
op_words entry start slots k (o.Call p) a b c d = calls_at k (entry p)
op_words entry start slots k o.CallAt a b c d = i.Blr 25 ∷ []
op_words entry start slots k o.Copy a b c d = calls_at k start
op_words entry start slots k o.Zero a b c d = calls_at k (start + length copy_words)
op_words entry start slots k o.Compare a b c d = calls_at k (start + length copy_words + length zero_words)
op_words entry start slots k (o.Svc n) a b c d = i.Svc n ∷ []

---- The prologue's parts

abbrev pub depth_words : Bool → List Instr
depth_words true = i.Cbnz 20 2 ∷ i.Brk 8 ∷ i.SubImm 20 20 1 false ∷ []
depth_words false = []

abbrev pub frame_words : ℕ → ℕ → List Instr
frame_words n link = i.SubImm 31 31 (n / 2 ^ 12) true ∷ i.SubImm 31 31 (n % 2 ^ 12) false ∷ i.Str 30 31 link ∷ []

abbrev pub count_words : ℕ → List Instr
count_words c = map (move_word 16) (constant_moves c)

abbrev pub taking : ℕ → List Instr
taking c = count_words c ++ (against 23 16 ∷ i.BCond 2 Hs ∷ i.Brk 9 ∷ i.SubReg 23 23 16 Lsl 0 ∷ [])

abbrev pub room_words : ℕ → List Instr
room_words c = if c == 0 then [] else taking c

abbrev pub data_words : ℕ → List Instr
data_words b = if b == 0 then [] else (i.AddImm 19 19 (b / 2 ^ 12) true ∷ i.AddImm 19 19 (b % 2 ^ 12) false ∷ [])

abbrev pub local_words : ℕ → ℕ → List Instr
local_words c b = room_words c ++ data_words b

abbrev pub prologue : Placed → List Instr
prologue pr = depth_words pr.counted ++ (frame_words (frame_of pr) pr.outs ++ local_words pr.cells pr.bytes)

---- The epilogue's parts

abbrev pub unframe_words : ℕ → ℕ → List Instr
unframe_words n link = i.Ldr 30 31 link ∷ i.AddImm 31 31 (n / 2 ^ 12) true ∷ i.AddImm 31 31 (n % 2 ^ 12) false ∷ []

abbrev pub giving : ℕ → List Instr
giving c = count_words c ++ i.AddReg 23 23 16 Lsl 0 ∷ []

abbrev pub unroom_words : ℕ → List Instr
unroom_words c = if c == 0 then [] else giving c

abbrev pub undata_words : ℕ → List Instr
undata_words b = if b == 0 then [] else (i.SubImm 19 19 (b / 2 ^ 12) true ∷ i.SubImm 19 19 (b % 2 ^ 12) false ∷ [])

abbrev pub unlocal_words : ℕ → ℕ → List Instr
unlocal_words c b = undata_words b ++ unroom_words c

abbrev pub undepth_words : Bool → List Instr
undepth_words true = i.AddImm 20 20 1 false ∷ []
undepth_words false = []

abbrev pub epilogue : Placed → List Instr
epilogue pr = unframe_words (frame_of pr) pr.outs ++ (unlocal_words pr.cells pr.bytes ++ (undepth_words pr.counted ++ i.Ret 30 ∷ []))

---- Ends

-- a jump from word k to word t: nothing where its target falls next in the code
abbrev pub jump_words : Bool → ℕ → ℕ → List Instr
jump_words falls k t = if falls then [] else (i.B (branch_field 26 (address_of k) (address_of t)) ∷ [])

-- a test is turned where its first target falls next and its other one doesn't
abbrev pub turned : ℕ → ℕ → ℕ → Bool
turned n one other = (one == n) && not (other == n)

-- a branch at word k
abbrev pub branch_words : Bool → Bool → ℕ → Cond → ℕ → ℕ → List Instr
branch_words one_next other_next k c one other =
    if one_next then (i.BCond (branch_field 19 (address_of k) (address_of other)) (opposite c) ∷ [])
    else (i.BCond (branch_field 19 (address_of k) (address_of one)) c ∷ jump_words other_next (suc k) other)

-- a branch at word k by whether a register is 0
abbrev pub nonzero_words : Bool → Bool → ℕ → ℕ → ℕ → ℕ → List Instr
nonzero_words one_next other_next k a one other =
    if one_next then (i.Cbz a (branch_field 19 (address_of k) (address_of other)) ∷ [])
    else (i.Cbnz a (branch_field 19 (address_of k) (address_of one)) ∷ jump_words other_next (suc k) other)

abbrev pub result_words : Option ℕ → ℕ → List Instr
result_words None a = []
result_words (Some x) a = i.OrrReg 0 31 a Lsl 0 ∷ []

-- an end's words, of which the first is word k, where block n falls next and block t begins at word block t
abbrev pub last_words : ℕ → (ℕ → ℕ) → Placed → ℕ → End → ℕ → ℕ → List Instr
last_words n block pr k (Return x) a b = result_words x a ++ epilogue pr
last_words n block pr k (Jump to args) a b = jump_words (to == n) k (block to)
last_words n block pr k (Branch c x y one other) a b = against a b ∷ branch_words (turned n one other) (other == n) (suc k) (cond_of c) (block one) (block other)
last_words n block pr k (Nonzero x one other) a b = nonzero_words (turned n one other) (other == n) k a (block one) (block other)
last_words n block pr k (Trap kind) a b = i.Brk kind ∷ []
