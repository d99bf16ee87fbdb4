-- How many words each part of a procedure's code has, in the order of the code.
use Rattle.std.specs.Prelude.{ℕ, List, [], ◌∷◌, ◌++◌, flat_map}
use Rattle.placed_code.specs.Placed.{Placed, block_of}
use Rattle.placed_code.specs.Layout.{Placing, placings, cell_width, end_width, front_width}
use Rattle.link_layout.specs.Widths.{widths_of}

-- of a block: each operation with the copies before it, and the end with the last copies
abbrev pub block_widths : Placed → Placing → List ℕ
block_widths pr at = widths_of (cell_width pr) 0 (block_of pr at.number).body ++ end_width pr at.next (block_of pr at.number) ∷ []

-- of a procedure: what stands before its blocks, and then these
abbrev pub line_widths : Placed → List ℕ
line_widths pr = front_width pr ∷ flat_map (block_widths pr) (placings pr)
