-- A piece: a procedure's words but for its holes, which are the words that depend on where the procedure and others
-- stand.
use Rattle.std.specs.Prelude.{ℕ, ◌+◌, Bool, List, [], ◌∷◌, map, length, slice_set}
use Rattle.run_laws.specs.Layers.{spread}
use Rattle.a64_numbers.specs.Branches.{branch_field}
use Rattle.a64_numbers.specs.Moves.{half}
use Rattle.a64_instr.specs.declared.instr.Instr.{Instr}
use Rattle.a64_instr.specs.declared.instr.Instr.TheVariants.{Bl, Movz, Movk}
use Rattle.a64_table.specs.Table.{word_of}
use Rattle.a64_machine.specs.State.{address_of}
use Rattle.a64_runtime.specs.Routines.{copy_words, zero_words}
use Rattle.block_runs.specs.declared.code.Code.{Code}
use Rattle.block_runs.specs.declared.code.Code.TheVariants as o
use Rattle.placed_code.specs.Placed.{Cell, Placed, block_of, def_register}
use Rattle.placed_code.specs.Words.{copies_words, frame_of}
use Rattle.placed_code.specs.Layout.{cell_width, Placing, placings, block_width, front_width}
use Rattle.procedure_pieces.specs.Code.{proc_code, block_from}

-- what stands in a hole: a call of a procedure or of a routine, and the lower or the upper half of the address of a
-- procedure's code, which goes to a register
pub data What : Type 0 where
  Calls : ℕ → What
  Copies : What
  Zeros : What
  Compares : What
  Lower : ℕ → ℕ → What
  Upper : ℕ → ℕ → What

-- the words before it in its piece, and what it is
pub record Hole : Type 0 where
  pub at : ℕ
  pub what : What

-- whether calls of the procedure are counted, how many bytes its frame has, its words, and its holes
pub record Piece : Type 0 where
  pub counted : Bool
  pub frame : ℕ
  pub words : List ℕ
  pub holes : List Hole

---- Filling

-- the word in a hole that stands at word k, where procedure p begins at word entry p and the routines at word start
abbrev pub put_in : (ℕ → ℕ) → (start k : ℕ) → What → Instr
put_in entry start k (Calls p) = Bl (branch_field 26 (address_of k) (address_of (entry p)))
put_in entry start k Copies = Bl (branch_field 26 (address_of k) (address_of start))
put_in entry start k Zeros = Bl (branch_field 26 (address_of k) (address_of (start + length copy_words)))
put_in entry start k Compares = Bl (branch_field 26 (address_of k) (address_of (start + length copy_words + length zero_words)))
put_in entry start k (Lower p d) = Movz d (half (address_of (entry p)) 0) 0
put_in entry start k (Upper p d) = Movk d (half (address_of (entry p)) 1) 1

-- words of which the first is word k, with the holes filled
abbrev pub all_filled : (ℕ → ℕ) → (start k : ℕ) → List Hole → List ℕ → List ℕ
all_filled entry start k [] words = words
all_filled entry start k (h ∷ hs) words = all_filled entry start k hs (slice_set words h.at (word_of (put_in entry start (k + h.at) h.what)))

abbrev pub filled : (ℕ → ℕ) → (start k : ℕ) → Piece → List ℕ
filled entry start k piece = all_filled entry start k piece.holes piece.words

---- The piece of a procedure

-- of an operation, of which the first word is word n of the piece, with register d for its definition
abbrev pub op_holes : (n : ℕ) → Code → (d : ℕ) → List Hole
op_holes n (o.Call p) d = record { at = n; what = Calls p } ∷ []
op_holes n (o.Code p) d = record { at = n; what = Lower p d } ∷ record { at = n + 1; what = Upper p d } ∷ []
op_holes n o.Copy d = record { at = n; what = Copies } ∷ []
op_holes n o.Zero d = record { at = n; what = Zeros } ∷ []
op_holes n o.Compare d = record { at = n; what = Compares } ∷ []
op_holes n _ d = []

abbrev pub cell_holes : Placed → ℕ → ℕ → Cell → List Hole
cell_holes pr j n cell = op_holes (n + length (copies_words pr cell.copies)) cell.op.code (def_register cell.named cell.op)

abbrev pub block_holes : Placed → ℕ → ℕ → Placing → List Hole
block_holes pr j n at = spread (cell_holes pr) (cell_width pr) 0 n (block_of pr at.number).body

abbrev pub proc_holes : Placed → List Hole
proc_holes pr = spread (block_holes pr) (block_width pr) 0 (front_width pr) (placings pr)

-- its words are those that it would have if it, all others and the routines began at word 0
abbrev pub piece_of : Placed → Piece
piece_of pr = record { counted = pr.counted; frame = frame_of pr; words = map word_of (proc_code (λ p. 0) 0 (block_from pr) 0 pr); holes = proc_holes pr }
