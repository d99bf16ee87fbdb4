-- What lies ahead in lines: copies, cells and what is behind them.
use Rattle.std.specs.Prelude.{◌≡◌, ℕ, List, [], ◌∷◌, ◌++◌, drop, length, get_or}
use Rattle.block_runs.specs.declared.end.End.{End}
use Rattle.block_runs.specs.Blocks.{Operation, CodeBlock}
use Rattle.lir_core.specs.declared.places.Move.{Move}
use Rattle.lir_core.specs.declared.places.Line.{Line}
use Rattle.lir_core.specs.declared.places.Line.TheVariants.{Store, Load, Moves, Result, Target}
use Rattle.lir_core.specs.declared.places.Line.TheVariants.{Lir as Does}
use Rattle.lir_core.specs.Lines.{names, AreDistinct}
use Rattle.boundary_resolve.specs.declared.code_line.CodeLine.{CodeLine}
use Rattle.boundary_resolve.specs.declared.code_line.CodeLine.TheVariants.{Body, Edge, Leave}
use Rattle.boundary_resolve.specs.declared.code_line.CodeLine.TheVariants.{Node as Begins}
use Rattle.placed_code.specs.Placed.{Copy}
use Rattle.placed_code.specs.Placed as place
use Rattle.placed_code.specs.Results.{line_copies, last_named}
use Rattle.linked_flows.specs.Allocations.{steps_of}
use Rattle.linked_flows.specs.Allocations as linked
use Rattle.link_blocks.specs.Fits.{register_in}
use Rattle.link_blocks.specs.Plans.{plain_operation, plain_end}

-- the steps of an edge, and the lines behind them
abbrev pub edges_ahead : List CodeLine → List Copy
edges_ahead [] = []
edges_ahead (Edge s ∷ ls) = linked.copy_of s ∷ edges_ahead ls
edges_ahead (Begins n ∷ ls) = []
edges_ahead (Body l ∷ ls) = []
edges_ahead (Leave n ∷ ls) = []

abbrev pub behind_edges : List CodeLine → List CodeLine
behind_edges [] = []
behind_edges (Edge s ∷ ls) = behind_edges ls
behind_edges (Begins n ∷ ls) = Begins n ∷ ls
behind_edges (Body l ∷ ls) = Body l ∷ ls
behind_edges (Leave n ∷ ls) = Leave n ∷ ls

-- the copies up to the next operation, or to where no line of a node stands, and the lines behind it
abbrev pub copies_ahead : List CodeLine → List Copy
copies_ahead [] = []
copies_ahead (Body (Does i) ∷ ls) = []
copies_ahead (Body (Store r v) ∷ ls) = line_copies steps_of (Store r v) ++ copies_ahead ls
copies_ahead (Body (Load r v) ∷ ls) = line_copies steps_of (Load r v) ++ copies_ahead ls
copies_ahead (Body (Moves ms) ∷ ls) = line_copies steps_of (Moves ms) ++ copies_ahead ls
copies_ahead (Body (Result r) ∷ ls) = line_copies steps_of (Result r) ++ copies_ahead ls
copies_ahead (Body (Target from) ∷ ls) = line_copies steps_of (Target from) ++ copies_ahead ls
copies_ahead (Begins n ∷ ls) = []
copies_ahead (Edge s ∷ ls) = []
copies_ahead (Leave n ∷ ls) = []

abbrev pub behind_copies : List CodeLine → List CodeLine
behind_copies [] = []
behind_copies (Body (Does i) ∷ ls) = ls
behind_copies (Body (Store r v) ∷ ls) = behind_copies ls
behind_copies (Body (Load r v) ∷ ls) = behind_copies ls
behind_copies (Body (Moves ms) ∷ ls) = behind_copies ls
behind_copies (Body (Result r) ∷ ls) = behind_copies ls
behind_copies (Body (Target from) ∷ ls) = behind_copies ls
behind_copies (Begins n ∷ ls) = Begins n ∷ ls
behind_copies (Edge s ∷ ls) = Edge s ∷ ls
behind_copies (Leave n ∷ ls) = Leave n ∷ ls

-- the cells of operations, with some copies in front; the copies behind them, and the lines behind those
abbrev pub cells_ahead : List Copy → List Operation → List ℕ → List CodeLine → List place.Cell
cells_ahead front [] named ls = []
cells_ahead front (op ∷ ops) named ls =
    record { copies = front ++ copies_ahead ls; op = plain_operation op.code; named = register_in named 0 ∷ register_in named 1 ∷ register_in named 2 ∷ register_in named (length op.uses) ∷ [] }
    ∷ cells_ahead [] ops (drop (names op) named) (behind_copies ls)

abbrev pub last_ahead : List Copy → List Operation → List CodeLine → List Copy
last_ahead front [] ls = front ++ (copies_ahead ls ++ edges_ahead (behind_copies ls))
last_ahead front (op ∷ ops) ls = last_ahead [] ops (behind_copies ls)

abbrev pub behind_last : List Operation → List CodeLine → List CodeLine
behind_last [] ls = behind_edges (behind_copies ls)
behind_last (op ∷ ops) ls = behind_last ops (behind_copies ls)

-- the block of a node with named registers, whose lines are ahead, and the lines behind them
abbrev pub block_ahead : CodeBlock → List ℕ → List CodeLine → place.Block
block_ahead bl named ls = record {
  params = [];
  body = cells_ahead (edges_ahead ls) bl.ops named (behind_edges ls);
  copies = last_ahead (edges_ahead ls) bl.ops (behind_edges ls);
  end = plain_end bl.end;
  a = register_in (last_named bl.ops named) 0;
  b = register_in (last_named bl.ops named) 1;
}

abbrev pub behind_block : CodeBlock → List CodeLine → List CodeLine
behind_block bl ls = drop 1 (behind_last bl.ops (behind_edges ls))

-- no two moves of a line have one destination
abbrev pub IsDistinct : Line → Type 0
IsDistinct (Moves ms) = AreDistinct ms
IsDistinct _ = Unit {0}

abbrev pub AreAllDistinct : List CodeLine → Type 0
AreAllDistinct lines = (at : ℕ) (line : Line) (rest : List CodeLine) → drop at lines ≡ Body line ∷ rest → IsDistinct line
