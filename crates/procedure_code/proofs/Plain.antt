-- Placed procedures have the same pieces without what has no words.
use Rattle.std.proofs.Common.{◌≡◌, ℕ, zero, suc, ◌+◌, List, [], ◌∷◌, ◌++◌, map, length, get_or, refl, ap, ap₂, ◌∙◌}
use Rattle.std.specs.Prelude.{◌==◌}
use Rattle.run_laws.specs.Layers.{whole_width, spread, width_before}
use Rattle.a64_instr.specs.declared.instr.Instr.{Instr}
use Rattle.block_runs.specs.declared.end.End.{End}
use Rattle.block_runs.specs.declared.end.End.TheVariants.{Return, Jump, Branch, Nonzero, Trap}
use Rattle.lir_core.specs.Spots.{Spot, reg, home, out, target, saved}
use Rattle.placed_code.specs.Placed.{Copy, Cell, Block, Placed, block_of, no_block, def_register}
use Rattle.placed_code.specs.Words.{where_is, move_between, copies_words, prologue, slots_of, frame_of, last_words, jump_words}
use Rattle.placed_code.specs.Layout.{op_width, cell_width, jump_width, last_width, end_width, Placing, followed, placings, position, block_width, first_of, front_width, proc_width, own_words}
use Rattle.placed_code.proofs.Parts.{length_map}
use Rattle.link_blocks.specs.Plans.{plain_cell, plain_end, plain_block, plain}
use Rattle.a64_table.specs.Table.{word_of}
use Rattle.procedure_pieces.specs.Code.{cell_code, end_code, parts_code, block_code, front_code, proc_code, block_from}
use Rattle.procedure_pieces.specs.Pieces.{Hole, Piece, op_holes, cell_holes, block_holes, proc_holes, piece_of}

module _ (pr : Placed) where
  where_plain : (p : Spot) → where_is (plain pr) p ≡ where_is pr p
  where_plain (reg r) = refl
  where_plain (home v) = refl
  where_plain (out s) = refl
  where_plain target = refl
  where_plain saved = refl

  pub copies_plain : (ms : List Copy) → copies_words (plain pr) ms ≡ copies_words pr ms
  copies_plain [] = refl
  copies_plain (m ∷ ms) = ap₂ (λ (xs ys : List Instr). xs ++ ys) (ap₂ move_between (where_plain m.to) (where_plain m.from)) (copies_plain ms)

  cell_plain : (j : ℕ) (cell : Cell) → cell_width (plain pr) j (plain_cell cell) ≡ cell_width pr j cell
  cell_plain j cell = ap (λ (ws : List Instr). length ws + op_width (slots_of pr) cell.op.code) (copies_plain cell.copies)

  cells_plain : (j : ℕ) (cells : List Cell) → whole_width (cell_width (plain pr)) j (map plain_cell cells) ≡ whole_width (cell_width pr) j cells
  cells_plain j [] = refl
  cells_plain j (cell ∷ cells) = ap₂ (λ m n. m + n) (cell_plain j cell) (cells_plain (suc j) cells)

  last_plain : (n : ℕ) (end : End) → last_width n (plain pr) (plain_end end) ≡ last_width n pr end
  last_plain n (Return x) = refl
  last_plain n (Jump to args) = refl
  last_plain n (Branch c x y one other) = refl
  last_plain n (Nonzero x one other) = refl
  last_plain n (Trap kind) = refl

  end_plain : (n : ℕ) (bl : Block) → end_width (plain pr) n (plain_block bl) ≡ end_width pr n bl
  end_plain n bl = ap₂ (λ (ws : List Instr) (m : ℕ). length ws + m) (copies_plain bl.copies) (last_plain n bl.end)

  pub nth_plain : (bls : List Block) (b : ℕ) → get_or (map plain_block bls) b no_block ≡ plain_block (get_or bls b no_block)
  nth_plain [] b = refl
  nth_plain (bl ∷ bls) zero = refl
  nth_plain (bl ∷ bls) (suc b) = nth_plain bls b

  many : length (map plain_block pr.blocks) ≡ length pr.blocks
  many = length_map plain_block pr.blocks

  order_plain : placings (plain pr) ≡ placings pr
  order_plain = ap (λ n. followed n pr.order) many

  block_plain : (j : ℕ) (at : Placing) → block_width (plain pr) j at ≡ block_width pr j at
  block_plain j at =
      let bl = block_of pr at.number in
      ap (λ (x : Block). whole_width (cell_width (plain pr)) 0 x.body + end_width (plain pr) at.next x) (nth_plain pr.blocks at.number)
      ∙ ap₂ (λ m n. m + n) (cells_plain 0 bl.body) (end_plain at.next bl)

  widths_plain : block_width (plain pr) ≡ block_width pr
  widths_plain = λ i j at. block_plain j at i

  front_plain : front_width (plain pr) ≡ front_width pr
  front_plain = ap₂ (λ (ws : List Instr) (n : ℕ). length (prologue pr) + (length ws + jump_width (first_of n pr.order == 0))) (copies_plain pr.copies) many

  pub width_plain : (p : ℕ) → proc_width p (plain pr) ≡ proc_width p pr
  width_plain p = ap₂ (λ m n. m + n) front_plain (ap₂ (λ f (xs : List Placing). whole_width f 0 xs) widths_plain order_plain)

  -- where a block stands behind what is before all blocks
  pub before_plain : (b : ℕ) → front_width (plain pr) + width_before (block_width (plain pr)) 0 (placings (plain pr)) (position pr.order b) ≡ front_width pr + width_before (block_width pr) 0 (placings pr) (position pr.order b)
  before_plain b = ap₂ (λ m n. m + n) front_plain (ap₂ (λ f (xs : List Placing). width_before f 0 xs (position pr.order b)) widths_plain order_plain)

  module _ (entry : ℕ → ℕ) (start : ℕ) (block : ℕ → ℕ) where
    cell_same : (j k : ℕ) (cell : Cell) → cell_code entry start (plain pr) j k (plain_cell cell) ≡ cell_code entry start pr j k cell
    cell_same j k cell = ap (λ (ws : List Instr). ws ++ own_words entry start (slots_of pr) (k + length ws) cell.op cell.named) (copies_plain cell.copies)

    cells_same : (j k : ℕ) (cells : List Cell) → spread (cell_code entry start (plain pr)) (cell_width (plain pr)) j k (map plain_cell cells) ≡ spread (cell_code entry start pr) (cell_width pr) j k cells
    cells_same j k [] = refl
    cells_same j k (cell ∷ cells) =
        ap₂ (λ (xs ys : List Instr). xs ++ ys) (cell_same j k cell)
        (ap (λ m. spread (cell_code entry start (plain pr)) (cell_width (plain pr)) (suc j) (k + m) (map plain_cell cells)) (cell_plain j cell) ∙ cells_same (suc j) (k + cell_width pr j cell) cells)

    last_same : (n k : ℕ) (end : End) (a b : ℕ) → last_words n block (plain pr) k (plain_end end) a b ≡ last_words n block pr k end a b
    last_same n k (Return x) a b = refl
    last_same n k (Jump to args) a b = refl
    last_same n k (Branch c x y one other) a b = refl
    last_same n k (Nonzero x one other) a b = refl
    last_same n k (Trap kind) a b = refl

    end_same : (n k : ℕ) (bl : Block) → end_code block (plain pr) n k (plain_block bl) ≡ end_code block pr n k bl
    end_same n k bl =
        ap (λ (ws : List Instr). ws ++ last_words n block (plain pr) (k + length ws) (plain_end bl.end) bl.a bl.b) (copies_plain bl.copies)
        ∙ ap (λ (ws : List Instr). copies_words pr bl.copies ++ ws) (last_same n (k + length (copies_words pr bl.copies)) bl.end bl.a bl.b)

    parts_same : (n k : ℕ) (bl : Block) → parts_code entry start block (plain pr) n k (plain_block bl) ≡ parts_code entry start block pr n k bl
    parts_same n k bl =
        ap₂ (λ (xs : List Instr) (m : ℕ). xs ++ end_code block (plain pr) n (k + m) (plain_block bl)) (cells_same 0 k bl.body) (cells_plain 0 bl.body)
        ∙ ap (λ (ys : List Instr). spread (cell_code entry start pr) (cell_width pr) 0 k bl.body ++ ys) (end_same n (k + whole_width (cell_width pr) 0 bl.body) bl)

    block_same : (j k : ℕ) (at : Placing) → block_code entry start block (plain pr) j k at ≡ block_code entry start block pr j k at
    block_same j k at = ap (λ (x : Block). parts_code entry start block (plain pr) at.next k x) (nth_plain pr.blocks at.number) ∙ parts_same at.next k (block_of pr at.number)

    front_same : (k : ℕ) → front_code block (plain pr) k ≡ front_code block pr k
    front_same k = ap₂ (λ (ws : List Instr) (n : ℕ). prologue pr ++ (ws ++ jump_words (first_of n pr.order == 0) (k + (length (prologue pr) + length ws)) (block 0))) (copies_plain pr.copies) many

    pub proc_same : (k : ℕ) → proc_code entry start block k (plain pr) ≡ proc_code entry start block k pr
    proc_same k =
        let blocks : block_code entry start block (plain pr) ≡ block_code entry start block pr = λ i j m at. block_same j m at i in
        ap₂ (λ (xs ys : List Instr). xs ++ ys) (front_same k)
        (ap₂ (λ f m. spread f (block_width (plain pr)) 0 (k + m) (placings (plain pr))) blocks front_plain
        ∙ ap₂ (λ w (xs : List Placing). spread (block_code entry start block pr) w 0 (k + front_width pr) xs) widths_plain order_plain)

  cell_holes_same : (j n : ℕ) (cell : Cell) → cell_holes (plain pr) j n (plain_cell cell) ≡ cell_holes pr j n cell
  cell_holes_same j n cell = ap (λ (ws : List Instr). op_holes (n + length ws) cell.op.code (def_register cell.named cell.op)) (copies_plain cell.copies)

  cells_holes_same : (j n : ℕ) (cells : List Cell) → spread (cell_holes (plain pr)) (cell_width (plain pr)) j n (map plain_cell cells) ≡ spread (cell_holes pr) (cell_width pr) j n cells
  cells_holes_same j n [] = refl
  cells_holes_same j n (cell ∷ cells) =
      ap₂ (λ (xs ys : List Hole). xs ++ ys) (cell_holes_same j n cell)
      (ap (λ m. spread (cell_holes (plain pr)) (cell_width (plain pr)) (suc j) (n + m) (map plain_cell cells)) (cell_plain j cell) ∙ cells_holes_same (suc j) (n + cell_width pr j cell) cells)

  block_holes_same : (j n : ℕ) (at : Placing) → block_holes (plain pr) j n at ≡ block_holes pr j n at
  block_holes_same j n at = ap (λ (x : Block). spread (cell_holes (plain pr)) (cell_width (plain pr)) 0 n x.body) (nth_plain pr.blocks at.number) ∙ cells_holes_same 0 n (block_of pr at.number).body

  holes_same : proc_holes (plain pr) ≡ proc_holes pr
  holes_same =
      let blocks : block_holes (plain pr) ≡ block_holes pr = λ i j n at. block_holes_same j n at i in
      ap₂ (λ f m. spread f (block_width (plain pr)) 0 m (placings (plain pr))) blocks front_plain
      ∙ ap₂ (λ w (xs : List Placing). spread (block_holes pr) w 0 (front_width pr) xs) widths_plain order_plain

  from_same : block_from (plain pr) ≡ block_from pr
  from_same = λ i b. before_plain b i

  pub piece_plain : piece_of (plain pr) ≡ piece_of pr
  piece_plain =
      let words : map word_of (proc_code (λ p. 0) 0 (block_from (plain pr)) 0 (plain pr)) ≡ map word_of (proc_code (λ p. 0) 0 (block_from pr) 0 pr) =
      ap (λ (is : List Instr). map word_of is) (ap (λ (f : ℕ → ℕ). proc_code (λ p. 0) 0 f 0 (plain pr)) from_same ∙ proc_same (λ p. 0) 0 (block_from pr) 0) in
      ap₂ (λ ws gs. let piece : Piece = record { counted = pr.counted; frame = frame_of pr; words = ws; holes = gs } in piece) words holes_same
