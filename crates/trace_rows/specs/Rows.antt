-- The rows of a block.
use Rattle.std.specs.Prelude.{ℕ, ◌+◌, true, false, List, [], ◌∷◌, ◌++◌, codes, drop, slice_get, slice_index_or, if◌then◌else◌, Option}
use Rattle.std.specs.Fmt.{decimal}
use Rattle.block_runs.specs.declared.end.End.{End}
use Rattle.lir_core.specs.declared.flow.Lir.{Lir}
use Rattle.lir_core.specs.declared.flow.Node.{Node}
use Rattle.lir_core.specs.declared.places.Places.{Places}
use Rattle.lir_core.specs.declared.places.Line.{Line}
use Rattle.lir_core.specs.declared.places.Line.TheVariants.{Store, Load, Moves, Result, Target}
use Rattle.lir_core.specs.declared.places.Line.TheVariants.{Lir as Does}
use Rattle.parallel_move.specs.declared.step.Step.{Step}
use Rattle.boundary_resolve.specs.declared.code_line.CodeLine.{CodeLine}
use Rattle.boundary_resolve.specs.declared.code_line.CodeLine.TheVariants.{Body, Edge, Leave}
use Rattle.boundary_resolve.specs.declared.code_line.CodeLine.TheVariants.{Node as Begins}
use Rattle.trace_rows.specs.declared.seat.EdgeName.{EdgeName}
use Rattle.trace_rows.specs.declared.seat.EdgeName.TheVariants.{Entry, To, Either}
use Rattle.trace_rows.specs.declared.seat.Sheet.{Sheet}
use Rattle.trace_rows.specs.declared.seat.Seat.{Seat}
use Rattle.trace_rows.specs.declared.seat.Cursor.{Cursor}
use Rattle.trace_rows.specs.Marks.{cell_end, homes_begin, row_begin, head_begin, text_begin, words_begin, row_end, edge_to}
use Rattle.trace_rows.specs.Names.{numbered}
use Rattle.trace_rows.specs.Operations.{value_text, values_text, end_text}
use Rattle.trace_rows.specs.Places.{kind_text, line_text, step_text, homed_by, homed_behind}
use Rattle.trace_rows.specs.Registers.{behind, names_of, hits, step_hits}
use Rattle.trace_rows.specs.Cells.{cells_text, homes_text, words_text}

---- What rows are made of

-- what all blocks of a procedure have in common: its number, the code, and how many words each part of it has
pub record PlainSheet : Type 0 where
  pub procedure : ℕ
  pub code : List ℕ
  pub widths : List ℕ

-- a block in its trace: its number and its node, where it begins and ends, the registers named for it, and how the edges are
-- called whose steps stand before its lines and behind them
pub record PlainSeat : Type 0 where
  pub block : ℕ
  pub node : Node
  pub start : Places
  pub end : Places
  pub named : List ℕ
  pub first_edge : EdgeName
  pub last_edge : EdgeName

abbrev pub plain_sheet : Sheet → PlainSheet
plain_sheet s = record { procedure = s.procedure; code = s.code.now; widths = s.widths.now }

abbrev pub plain_seat : Seat → PlainSeat
plain_seat t = record { block = t.block; node = t.node.now; start = t.start.now; end = t.end.now; named = t.named.now; first_edge = t.first_edge; last_edge = t.last_edge }

---- How far the rows of a procedure have come

abbrev pub width_at : List ℕ → Cursor → ℕ
width_at widths c = slice_index_or widths c.part 0

-- behind a part that has words
abbrev pub taken : List ℕ → Cursor → Cursor
taken widths c = record c { word = c.word + width_at widths c; part = c.part + 1 }

-- at the begin of a block
abbrev pub fresh : Cursor → Cursor
fresh c = record c { used = 0; begun = false }

-- behind a line
abbrev pub started : ℕ → Cursor → Cursor
started count c = record c { used = c.used + count; begun = true }

abbrev pub cursor_behind : List ℕ → List Lir → Line → Cursor → Cursor
cursor_behind widths ops (Does i) c = taken widths (started (names_of (slice_get ops i)) c)
cursor_behind widths ops (Store r v) c = started 0 c
cursor_behind widths ops (Load r v) c = started 0 c
cursor_behind widths ops (Moves ms) c = started 0 c
cursor_behind widths ops (Result r) c = started 0 c
cursor_behind widths ops (Target from) c = started 0 c

---- Parts of rows

unfoldable pub row_start : List ℕ → List ℕ
row_start kind = row_begin ++ (kind ++ text_begin)

unfoldable pub row_cells : List ℕ → List (Option ℕ) → List ℕ
row_cells hits regs = cell_end ++ (cells_text hits 0 regs ++ homes_begin)

unfoldable pub row_words : List ℕ → List ℕ
row_words words = words_begin ++ (words ++ row_end)

-- of the part of the code that comes next
abbrev pub part_words : PlainSheet → Cursor → List ℕ
part_words s c = words_text s.code c.word (width_at s.widths c)

---- The first row

unfoldable pub head_start : (procedure block : ℕ) → List ℕ
head_start procedure block = head_begin ++ (decimal procedure ++ (codes "-b" ++ (decimal block ++ text_begin)))

unfoldable pub params_text : List ℕ → List ℕ
params_text [] = []
params_text (v ∷ vs) = codes "(" ++ (value_text v ++ (values_text vs ++ codes ")"))

unfoldable pub head_front : ℕ → PlainSeat → List ℕ
head_front procedure t = head_start procedure t.block ++ (numbered (codes "block") t.block ++ params_text t.node.params)

unfoldable pub head_row : ℕ → PlainSeat → List ℕ
head_row procedure t = head_front procedure t ++ (row_cells [] t.start.regs ++ (homes_text t.start.homed ++ row_words []))

---- Steps of edges

unfoldable pub edge_text : EdgeName → List ℕ
edge_text Entry = codes "entry: "
edge_text (To n) = edge_to ++ (decimal n ++ codes ": ")
edge_text (Either m n) = edge_to ++ (decimal m ++ (codes " or " ++ (decimal n ++ codes ": ")))

unfoldable pub edge_front : EdgeName → Step → List ℕ
edge_front name step = row_start (codes "move") ++ (edge_text name ++ step_text step)

unfoldable pub edge_row : EdgeName → Step → List (Option ℕ) → List ℕ
edge_row name step regs = edge_front name step ++ (row_cells (step_hits step) regs ++ (homed_behind step ++ row_words []))

abbrev pub edge_name : PlainSeat → Cursor → EdgeName
edge_name t c = if c.begun then t.last_edge else t.first_edge

---- Lines

abbrev pub named_next : PlainSeat → Cursor → List ℕ
named_next t c = drop c.used t.named

abbrev pub regs_behind : PlainSeat → Line → Cursor → List (Option ℕ) → List (Option ℕ)
regs_behind t l c regs = behind t.node.lirs (named_next t c) l regs

abbrev pub line_words : PlainSheet → Line → Cursor → List ℕ
line_words s (Does i) c = part_words s c
line_words s (Store r v) c = []
line_words s (Load r v) c = []
line_words s (Moves ms) c = []
line_words s (Result r) c = []
line_words s (Target from) c = []

unfoldable pub line_front : PlainSeat → Line → List ℕ
line_front t l = row_start (kind_text l) ++ line_text t.node.lirs l

unfoldable pub line_row : PlainSheet → PlainSeat → Line → Cursor → List (Option ℕ) → List ℕ
line_row s t l c regs = line_front t l ++ (row_cells (hits t.node.lirs (named_next t c) l) regs ++ (homed_by l ++ row_words (line_words s l c)))

---- The end

unfoldable pub end_front : End → List ℕ
end_front end = row_start (codes "end") ++ end_text end

unfoldable pub end_row : PlainSheet → PlainSeat → Cursor → List ℕ
end_row s t c = end_front t.node.end ++ (row_cells [] t.end.regs ++ row_words (part_words s c))

---- All rows of a block, whose lines are ahead

abbrev pub rows : PlainSheet → PlainSeat → List CodeLine → Cursor → List (Option ℕ) → List ℕ
rows s t [] c regs = []
rows s t (Begins n ∷ ls) c regs = rows s t ls c regs
rows s t (Edge step ∷ ls) c regs = edge_row (edge_name t c) step regs ++ rows s t ls c regs
rows s t (Body l ∷ ls) c regs = line_row s t l c (regs_behind t l c regs) ++ rows s t ls (cursor_behind s.widths t.node.lirs l c) (regs_behind t l c regs)
rows s t (Leave n ∷ ls) c regs = end_row s t c

unfoldable pub node_rows : PlainSheet → PlainSeat → List CodeLine → Cursor → List ℕ
node_rows s t ls c = head_row s.procedure t ++ rows s t ls (fresh c) t.start.regs

-- the lines behind it, and how far that is
abbrev pub lines_behind : List CodeLine → List CodeLine
lines_behind [] = []
lines_behind (Begins n ∷ ls) = lines_behind ls
lines_behind (Edge step ∷ ls) = lines_behind ls
lines_behind (Body l ∷ ls) = lines_behind ls
lines_behind (Leave n ∷ ls) = ls

abbrev pub rows_cursor : List ℕ → List Lir → List CodeLine → Cursor → Cursor
rows_cursor widths ops [] c = c
rows_cursor widths ops (Begins n ∷ ls) c = rows_cursor widths ops ls c
rows_cursor widths ops (Edge step ∷ ls) c = rows_cursor widths ops ls c
rows_cursor widths ops (Body l ∷ ls) c = rows_cursor widths ops ls (cursor_behind widths ops l c)
rows_cursor widths ops (Leave n ∷ ls) c = taken widths c

abbrev pub node_cursor : List ℕ → List Lir → List CodeLine → Cursor → Cursor
node_cursor widths ops ls c = rows_cursor widths ops ls (fresh c)

---- What stands before all blocks: the steps of the entry's edge

unfoldable pub entry_front : List ℕ
entry_front = row_start (codes "op") ++ codes "entry"

-- the words of the entry and of its edge's steps
unfoldable pub entry_row : PlainSheet → Cursor → List (Option ℕ) → List ℕ
entry_row s c regs = entry_front ++ (row_cells [] regs ++ row_words (part_words s c))

abbrev pub entry_rows : List CodeLine → List (Option ℕ) → List ℕ
entry_rows [] regs = []
entry_rows (Begins n ∷ ls) regs = []
entry_rows (Edge step ∷ ls) regs = edge_row Entry step regs ++ entry_rows ls regs
entry_rows (Body l ∷ ls) regs = []
entry_rows (Leave n ∷ ls) regs = []

abbrev pub lines_behind_entry : List CodeLine → List CodeLine
lines_behind_entry [] = []
lines_behind_entry (Begins n ∷ ls) = Begins n ∷ ls
lines_behind_entry (Edge step ∷ ls) = lines_behind_entry ls
lines_behind_entry (Body l ∷ ls) = Body l ∷ ls
lines_behind_entry (Leave n ∷ ls) = Leave n ∷ ls
