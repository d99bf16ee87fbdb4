-- How many words the parts of placed procedures have, wherever they stand.
use Rattle.std.proofs.Common.{◌≡◌, ℕ, ◌+◌, ◌++◌, length, ap, ap₂, ◌∙◌, length-append}
use Rattle.run_laws.specs.Layers.{whole_width, spread}
use Rattle.run_laws.proofs.Rows.{length-spread}
use Rattle.placed_code.specs.Placed.{Cell, Block, Placed, block_of, use_register, def_register}
use Rattle.placed_code.specs.Words.{copies_words, slots_of, last_words, jump_words, prologue}
use Rattle.placed_code.specs.Layout.{cell_width, end_width, Placing, placings, block_width, zero_first, front_width, proc_width, own_words}
use Rattle.placed_code.proofs.Linking.{jump_size, op_size, last_size}
use Rattle.procedure_pieces.specs.Code.{cell_code, end_code, parts_code, block_code, front_code, proc_code}

module _ (entry : ℕ → ℕ) (start : ℕ) (block : ℕ → ℕ) (pr : Placed) where
  pub cell_size : (j k : ℕ) (cell : Cell) → length (cell_code entry start pr j k cell) ≡ cell_width pr j cell
  cell_size j k cell =
      length-append (copies_words pr cell.copies) (own_words entry start (slots_of pr) (k + length (copies_words pr cell.copies)) cell.op cell.named)
      ∙ ap (λ m. length (copies_words pr cell.copies) + m) (op_size entry start (slots_of pr) (k + length (copies_words pr cell.copies)) cell.op.code (use_register cell.named 0) (use_register cell.named 1) (use_register cell.named 2) (def_register cell.named cell.op))

  pub end_size : (n k : ℕ) (bl : Block) → length (end_code block pr n k bl) ≡ end_width pr n bl
  end_size n k bl =
      length-append (copies_words pr bl.copies) (last_words n block pr (k + length (copies_words pr bl.copies)) bl.end bl.a bl.b)
      ∙ ap (λ m. length (copies_words pr bl.copies) + m) (last_size n block pr (k + length (copies_words pr bl.copies)) bl.end bl.a bl.b)

  pub parts_size : (n k : ℕ) (bl : Block) → length (parts_code entry start block pr n k bl) ≡ whole_width (cell_width pr) 0 bl.body + end_width pr n bl
  parts_size n k bl =
      length-append (spread (cell_code entry start pr) (cell_width pr) 0 k bl.body) (end_code block pr n (k + whole_width (cell_width pr) 0 bl.body) bl)
      ∙ ap₂ (λ m o. m + o) (length-spread (cell_code entry start pr) (cell_width pr) cell_size 0 k bl.body) (end_size n (k + whole_width (cell_width pr) 0 bl.body) bl)

  pub block_size : (j k : ℕ) (at : Placing) → length (block_code entry start block pr j k at) ≡ block_width pr j at
  block_size j k at = parts_size at.next k (block_of pr at.number)

  pub front_size : (k : ℕ) → length (front_code block pr k) ≡ front_width pr
  front_size k =
      let jump = jump_words (zero_first pr) (k + (length (prologue pr) + length (copies_words pr pr.copies))) (block 0) in
      length-append (prologue pr) (copies_words pr pr.copies ++ jump)
      ∙ ap (λ m. length (prologue pr) + m) (length-append (copies_words pr pr.copies) jump ∙ ap (λ m. length (copies_words pr pr.copies) + m) (jump_size (zero_first pr) (k + (length (prologue pr) + length (copies_words pr pr.copies))) (block 0)))

  pub proc_size : (k p : ℕ) → length (proc_code entry start block k pr) ≡ proc_width p pr
  proc_size k p =
      length-append (front_code block pr k) (spread (block_code entry start block pr) (block_width pr) 0 (k + front_width pr) (placings pr))
      ∙ ap₂ (λ m o. m + o) (front_size k) (length-spread (block_code entry start block pr) (block_width pr) block_size 0 (k + front_width pr) (placings pr))
