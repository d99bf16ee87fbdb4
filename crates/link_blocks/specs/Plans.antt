-- Plans as placed procedures, and placed procedures without what has no words.
use Rattle.std.specs.Prelude.{ℕ, List, [], ◌∷◌, map, length, None}
use Rattle.block_runs.specs.declared.code.Code.{Code}
use Rattle.block_runs.specs.declared.end.End.{End}
use Rattle.block_runs.specs.declared.end.End.TheVariants.{Jump, Branch, Nonzero, Return, Trap}
use Rattle.block_runs.specs.Blocks.{Operation}
use Rattle.placed_code.specs.Placed.{Placed, use_register, def_register}
use Rattle.placed_code.specs.Placed as place
use Rattle.placed_code.specs.Results.{rank_in}
use Rattle.link_layout.specs.Spots.{copy_of}
use Rattle.link_blocks.specs.declared.plans.Cell.{Cell}
use Rattle.link_blocks.specs.declared.plans.Block.{Block}
use Rattle.link_blocks.specs.declared.plans.Plan.{Plan}

-- an operation that reads in up to three registers, and makes a value in a fourth
abbrev pub plain_operation : Code → Operation
plain_operation code = record { code = code; uses = 0 ∷ 0 ∷ 0 ∷ []; def = None }

abbrev pub cell_in : Cell → place.Cell
cell_in c = record { copies = map copy_of c.copies; op = plain_operation c.code; named = c.registers.a ∷ c.registers.b ∷ c.registers.c ∷ c.registers.d ∷ [] }

abbrev pub block_in : Block → place.Block
block_in bl = record { params = []; body = map cell_in bl.cells; copies = map copy_of bl.copies; end = bl.end; a = bl.a; b = bl.b }

abbrev pub placed_in : Plan → Placed
placed_in p = record {
  counted = p.frame.counted;
  cells = p.frame.cells;
  bytes = p.frame.bytes;
  outs = p.frame.outs;
  homes = length p.homes;
  rank = rank_in p.homes;
  copies = map copy_of p.first;
  blocks = map block_in p.blocks;
  order = p.order;
}

---- Without what has no words: values, parameters and arguments

abbrev pub plain_cell : place.Cell → place.Cell
plain_cell c = record { copies = c.copies; op = plain_operation c.op.code; named = use_register c.named 0 ∷ use_register c.named 1 ∷ use_register c.named 2 ∷ def_register c.named c.op ∷ [] }

abbrev pub plain_end : End → End
plain_end (Jump to args) = Jump to []
plain_end (Branch c x y one other) = Branch c x y one other
plain_end (Nonzero x one other) = Nonzero x one other
plain_end (Return x) = Return x
plain_end (Trap kind) = Trap kind

abbrev pub plain_block : place.Block → place.Block
plain_block bl = record { params = []; body = map plain_cell bl.body; copies = bl.copies; end = plain_end bl.end; a = bl.a; b = bl.b }

abbrev pub plain : Placed → Placed
plain pr = record {
  counted = pr.counted;
  cells = pr.cells;
  bytes = pr.bytes;
  outs = pr.outs;
  homes = pr.homes;
  rank = pr.rank;
  copies = pr.copies;
  blocks = map plain_block pr.blocks;
  order = pr.order;
}
