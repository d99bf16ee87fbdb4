-- Words of placed procedures, from where procedures, routines and blocks begin.
use Rattle.std.specs.Prelude.{ℕ, ◌+◌, List, ◌++◌, length}
use Rattle.run_laws.specs.Layers.{whole_width, width_before, spread}
use Rattle.a64_instr.specs.declared.instr.Instr.{Instr}
use Rattle.placed_code.specs.Placed.{Cell, Block, Placed, block_of}
use Rattle.placed_code.specs.Words.{copies_words, slots_of, jump_words, last_words, prologue}
use Rattle.placed_code.specs.Layout.{cell_width, Placing, placings, block_width, zero_first, front_width, own_words, position}

abbrev pub cell_code : (ℕ → ℕ) → ℕ → Placed → ℕ → ℕ → Cell → List Instr
cell_code entry start pr j k cell = copies_words pr cell.copies ++ own_words entry start (slots_of pr) (k + length (copies_words pr cell.copies)) cell.op cell.named

abbrev pub end_code : (ℕ → ℕ) → Placed → ℕ → ℕ → Block → List Instr
end_code block pr n k bl = copies_words pr bl.copies ++ last_words n block pr (k + length (copies_words pr bl.copies)) bl.end bl.a bl.b

abbrev pub parts_code : (ℕ → ℕ) → ℕ → (ℕ → ℕ) → Placed → ℕ → ℕ → Block → List Instr
parts_code entry start block pr n k bl = spread (cell_code entry start pr) (cell_width pr) 0 k bl.body ++ end_code block pr n (k + whole_width (cell_width pr) 0 bl.body) bl

abbrev pub block_code : (ℕ → ℕ) → ℕ → (ℕ → ℕ) → Placed → ℕ → ℕ → Placing → List Instr
block_code entry start block pr j k at = parts_code entry start block pr at.next k (block_of pr at.number)

abbrev pub front_code : (ℕ → ℕ) → Placed → ℕ → List Instr
front_code block pr k = prologue pr ++ (copies_words pr pr.copies ++ jump_words (zero_first pr) (k + (length (prologue pr) + length (copies_words pr pr.copies))) (block 0))

abbrev pub proc_code : (ℕ → ℕ) → ℕ → (ℕ → ℕ) → ℕ → Placed → List Instr
proc_code entry start block k pr = front_code block pr k ++ spread (block_code entry start block pr) (block_width pr) 0 (k + front_width pr) (placings pr)

-- where a block begins, counted from its procedure's first word
abbrev pub block_from : Placed → ℕ → ℕ
block_from pr b = front_width pr + width_before (block_width pr) 0 (placings pr) (position pr.order b)
