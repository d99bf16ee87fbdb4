-- All words in one row: how wide each part is, where it stands, and the code.
use Rattle.std.specs.Prelude.{ℕ, suc, ◌+◌, ◌==◌, Bool, List, [], ◌∷◌, ◌++◌, map, drop, length, if◌then◌else◌}
use Rattle.run_laws.specs.Layers.{width_before, whole_width, spread}
use Rattle.a64_numbers.specs.Branches.{branch_field}
use Rattle.a64_instr.specs.declared.instr.Instr.{Instr}
use Rattle.a64_instr.specs.declared.instr.Instr.TheVariants.{Bl, Svc}
use Rattle.a64_table.specs.Table.{word_of}
use Rattle.a64_machine.specs.State.{address_of}
use Rattle.a64_runtime.specs.Routines.{routines}
use Rattle.block_runs.specs.declared.code.Code.{Code}
use Rattle.block_runs.specs.declared.end.End.{End}
use Rattle.block_runs.specs.declared.end.End.TheVariants.{Jump, Branch, Nonzero, Return, Trap}
use Rattle.block_runs.specs.Blocks.{Operation, bodies}
use Rattle.placed_code.specs.Placed.{Cell, Block, Placed, procedures, proc_of, block_of, use_register, def_register}
use Rattle.placed_code.specs.Words.{copies_words, slots_of, op_words, result_words, jump_words, turned, last_words, prologue, epilogue}

---- Widths, which depend on no place

-- of an operation, where the frame has so many slots
abbrev pub op_width : ℕ → Code → ℕ
op_width slots code = length (op_words (λ p. 0) 0 slots 0 code 0 0 0 0)

abbrev pub cell_width : Placed → ℕ → Cell → ℕ
cell_width pr j cell = length (copies_words pr cell.copies) + op_width (slots_of pr) cell.op.code

abbrev pub jump_width : Bool → ℕ
jump_width falls = if falls then 0 else 1

-- of an end, where block n falls next
abbrev pub last_width : ℕ → Placed → End → ℕ
last_width n pr (Return x) = length (result_words x 0) + length (epilogue pr)
last_width n pr (Jump to args) = jump_width (to == n)
last_width n pr (Branch c x y one other) = 1 + (if turned n one other then 1 else (1 + jump_width (other == n)))
last_width n pr (Nonzero x one other) = if turned n one other then 1 else (1 + jump_width (other == n))
last_width n pr (Trap kind) = 1

abbrev pub end_width : Placed → ℕ → Block → ℕ
end_width pr n bl = length (copies_words pr bl.copies) + last_width n pr bl.end

---- The blocks of a procedure in the order of their code

-- a block's number, and that of the block which falls next
pub record Placing : Type 0 where
  pub number : ℕ
  pub next : ℕ

abbrev pub first_of : ℕ → List ℕ → ℕ
first_of none [] = none
first_of none (b ∷ bs) = b

abbrev pub followed : ℕ → List ℕ → List Placing
followed none [] = []
followed none (b ∷ bs) = record { number = b; next = first_of none bs } ∷ followed none bs

-- behind the last one falls the number that no block has
abbrev pub placings : Placed → List Placing
placings pr = followed (length pr.blocks) pr.order

-- where a block is in the order; the order's length where it isn't
abbrev pub position : List ℕ → ℕ → ℕ
position [] b = 0
position (c ∷ cs) b = if c == b then 0 else suc (position cs b)

abbrev pub follower : Placed → ℕ → ℕ
follower pr b = first_of (length pr.blocks) (drop (suc (position pr.order b)) pr.order)

abbrev pub block_width : Placed → ℕ → Placing → ℕ
block_width pr j at = whole_width (cell_width pr) 0 (block_of pr at.number).body + end_width pr at.next (block_of pr at.number)

-- block 0 stands first
abbrev pub zero_first : Placed → Bool
zero_first pr = first_of (length pr.blocks) pr.order == 0

-- the prologue, the copies at the entry, and B where block 0 isn't first
abbrev pub front_width : Placed → ℕ
front_width pr = length (prologue pr) + (length (copies_words pr pr.copies) + jump_width (zero_first pr))

abbrev pub proc_width : ℕ → Placed → ℕ
proc_width p pr = front_width pr + whole_width (block_width pr) 0 (placings pr)

---- Places

-- one BL for each module's body, and SVC #0, stand before the routines
abbrev pub body_count : List Placed → ℕ
body_count ps = length (bodies (procedures ps))

abbrev pub routines_at : List Placed → ℕ
routines_at ps = suc (body_count ps)

abbrev pub procedures_at : List Placed → ℕ
procedures_at ps = routines_at ps + length routines

abbrev pub entry : List Placed → ℕ → ℕ
entry ps p = procedures_at ps + width_before proc_width 0 ps p

abbrev pub block_place : List Placed → ℕ → ℕ → ℕ
block_place ps p b = entry ps p + front_width (proc_of ps p) + width_before (block_width (proc_of ps p)) 0 (placings (proc_of ps p)) (position (proc_of ps p).order b)

abbrev pub place : List Placed → ℕ → ℕ → ℕ → ℕ
place ps p b i = block_place ps p b + width_before (cell_width (proc_of ps p)) 0 (block_of (proc_of ps p) b).body i

abbrev pub first_width : Placed → ℕ → Block → List Cell → ℕ
first_width pr n bl [] = end_width pr n bl
first_width pr n bl (cell ∷ cells) = cell_width pr 0 cell

-- of an operation, or of the end behind the last one
abbrev pub width : List Placed → ℕ → ℕ → ℕ → ℕ
width ps p b i = first_width (proc_of ps p) (follower (proc_of ps p) b) (block_of (proc_of ps p) b) (drop i (block_of (proc_of ps p) b).body)

---- Words

abbrev pub own_words : (ℕ → ℕ) → (start slots k : ℕ) → Operation → List ℕ → List Instr
own_words entry start slots k op named = op_words entry start slots k op.code (use_register named 0) (use_register named 1) (use_register named 2) (def_register named op)

abbrev pub cell_words : List Placed → Placed → ℕ → ℕ → Cell → List Instr
cell_words ps pr j k cell = copies_words pr cell.copies ++ own_words (entry ps) (routines_at ps) (slots_of pr) (k + length (copies_words pr cell.copies)) cell.op cell.named

abbrev pub end_words : List Placed → ℕ → Placed → ℕ → ℕ → Block → List Instr
end_words ps p pr n k bl = copies_words pr bl.copies ++ last_words n (λ t. place ps p t 0) pr (k + length (copies_words pr bl.copies)) bl.end bl.a bl.b

abbrev pub block_words : List Placed → ℕ → Placed → ℕ → ℕ → Placing → List Instr
block_words ps p pr j k at = spread (cell_words ps pr) (cell_width pr) 0 k (block_of pr at.number).body ++ end_words ps p pr at.next (k + whole_width (cell_width pr) 0 (block_of pr at.number).body) (block_of pr at.number)

abbrev pub front_words : List Placed → ℕ → Placed → ℕ → List Instr
front_words ps p pr k = prologue pr ++ (copies_words pr pr.copies ++ jump_words (zero_first pr) (k + (length (prologue pr) + length (copies_words pr pr.copies))) (place ps p 0 0))

abbrev pub proc_words : List Placed → ℕ → ℕ → Placed → List Instr
proc_words ps p k pr = front_words ps p pr k ++ spread (block_words ps p pr) (block_width pr) 0 (k + front_width pr) (placings pr)

-- one BL for each body in order, of which the first is word k, and SVC #0
abbrev pub start_words : (ℕ → ℕ) → ℕ → List ℕ → List Instr
start_words entry k [] = Svc 0 ∷ []
start_words entry k (p ∷ ps) = Bl (branch_field 26 (address_of k) (address_of (entry p))) ∷ start_words entry (suc k) ps

-- the start, the routines, and the procedures by number
abbrev pub all_words : List Placed → List Instr
all_words ps = start_words (entry ps) 0 (bodies (procedures ps)) ++ (routines ++ spread (proc_words ps) proc_width 0 (procedures_at ps) ps)

abbrev pub code_of : List Placed → List ℕ
code_of ps = map word_of (all_words ps)
