-- The words of entries, ends and copies, from the parts of a frame.
use Rattle.std.specs.Prelude.{◌≡◌, ℕ, suc, ◌+◌, ◌*◌, ◌<◌, ◌^◌, ◌==◌, Bool, if◌then◌else◌, List, [], ◌∷◌, ◌++◌}
use Rattle.a64_instr.specs.declared.instr.Shift.TheVariants.{Lsl}
use Rattle.a64_instr.specs.declared.instr.Cond.TheVariants.{Hs}
use Rattle.a64_instr.specs.declared.instr.Instr.{Instr}
use Rattle.a64_instr.specs.declared.instr.Instr.TheVariants.{AddReg, SubReg, BCond, Brk, Ret}
use Rattle.a64_table.specs.Decode.{cond_of}
use Rattle.a64_runtime.specs.Routines.{against}
use Rattle.block_runs.specs.declared.end.End.{End}
use Rattle.block_runs.specs.declared.end.End.TheVariants.{Return, Jump, Branch, Nonzero, Trap}
use Rattle.placed_code.specs.Placed.{Placed}
use Rattle.placed_code.specs.Words.{slots_of, prologue, epilogue, last_words, turned, jump_words, branch_words, nonzero_words, result_words, depth_words, undepth_words, frame_words, unframe_words, local_words, unlocal_words}
use Rattle.placed_code.specs.Words as place
use Rattle.placed_code.specs.Layout.{jump_width}
use Rattle.link_words.specs.declared.frames.Frame.{Frame}
use Rattle.link_words.specs.declared.ends.Where.{Where}
use Rattle.link_words.specs.declared.ends.Where.TheVariants.{InReg, InSlot}

-- its numbers fit the fields of instructions
pub record FrameFits (f : Frame) : Type 0 where
  pub slots : f.slots < 2 ^ 21
  pub outs : f.outs < 2 ^ 12
  pub bytes : f.bytes < 2 ^ 24

abbrev pub opening : Frame → List Instr
opening f = depth_words f.counted ++ (frame_words (8 * f.slots) f.outs ++ local_words f.cells f.bytes)

abbrev pub closing : Frame → List Instr
closing f = unframe_words (8 * f.slots) f.outs ++ (unlocal_words f.cells f.bytes ++ (undepth_words f.counted ++ Ret 30 ∷ []))

-- the number of cells in X16 is taken from those that are left, or trapped
abbrev pub taken : List Instr
taken = against 23 16 ∷ BCond 2 Hs ∷ Brk 9 ∷ SubReg 23 23 16 Lsl 0 ∷ []

abbrev pub given_back : List Instr
given_back = AddReg 23 23 16 Lsl 0 ∷ []

-- it is a register's number, or a slot that loads reach
abbrev pub WhereFits : Where → Type 0
WhereFits (InReg r) = r < 2 ^ 5
WhereFits (InSlot j) = j < 2 ^ 21

-- a register or a slot, as placed code has it
abbrev pub where_of : Where → place.Where
where_of (InReg r) = place.InReg r
where_of (InSlot j) = place.InSlot j

-- the words of an end, as placed code has them, from the parts of a frame
abbrev pub last_of : ℕ → (ℕ → ℕ) → Frame → ℕ → End → ℕ → ℕ → List Instr
last_of n block f k (Return x) a b = result_words x a ++ closing f
last_of n block f k (Jump to args) a b = jump_words (to == n) k (block to)
last_of n block f k (Branch c x y one other) a b = against a b ∷ branch_words (turned n one other) (other == n) (suc k) (cond_of c) (block one) (block other)
last_of n block f k (Nonzero x one other) a b = nonzero_words (turned n one other) (other == n) k a (block one) (block other)
last_of n block f k (Trap kind) a b = Brk kind ∷ []

-- how many words lead to two blocks, and those of an end that branches; 0 for one that doesn't
abbrev pub width_of_ways : Bool → Bool → ℕ
width_of_ways turned falls = if turned then 1 else (1 + jump_width falls)

abbrev pub width_of_end : ℕ → End → ℕ
width_of_end n (Return x) = 0
width_of_end n (Jump to args) = jump_width (to == n)
width_of_end n (Branch c x y one other) = 1 + width_of_ways (turned n one other) (other == n)
width_of_end n (Nonzero x one other) = width_of_ways (turned n one other) (other == n)
width_of_end n (Trap kind) = 0

-- the frame of a placed procedure
abbrev pub frame_in : Placed → Frame
frame_in pr = record { counted = pr.counted; slots = slots_of pr; outs = pr.outs; cells = pr.cells; bytes = pr.bytes }

-- from the parts of a placed procedure's frame come its words
pub record WordsArePlaced (pr : Placed) : Type 0 where
  pub opens : opening (frame_in pr) ≡ prologue pr
  pub closes : closing (frame_in pr) ≡ epilogue pr
  pub ends : (n : ℕ) (block : ℕ → ℕ) (k : ℕ) (end : End) (a b : ℕ) → last_of n block (frame_in pr) k end a b ≡ last_words n block pr k end a b
