-- The tables of a procedure's traces.
use Rattle.std.specs.Prelude.{ℕ, suc, Bool, true, false, List, [], ◌∷◌, ◌++◌, codes, Option, None, slice_index_or, slice_get}
use Rattle.block_runs.specs.declared.end.End.{End}
use Rattle.block_runs.specs.declared.end.End.TheVariants.{Jump, Branch, Nonzero, Return, Trap}
use Rattle.lir_core.specs.declared.flow.Flow.{Flow}
use Rattle.lir_core.specs.declared.flow.Node.{Node}
use Rattle.lir_core.specs.declared.flow.Trace.{Trace}
use Rattle.lir_core.specs.declared.places.Line.{Line}
use Rattle.lir_core.specs.declared.places.TraceOut.{TraceOut}
use Rattle.lir_core.specs.Flows.{node_at}
use Rattle.lir_core.specs.Sound.{no_places}
use Rattle.boundary_resolve.specs.declared.code_line.CodeLine.{CodeLine}
use Rattle.boundary_resolve.specs.Placing.{out_at, is_test}
use Rattle.alloc_choice.specs.declared.choice.Used.{Used}
use Rattle.trace_report.specs.Lines.{greatest}
use Rattle.trace_rows.specs.declared.seat.EdgeName.{EdgeName}
use Rattle.trace_rows.specs.declared.seat.EdgeName.TheVariants.{To, Either}
use Rattle.trace_rows.specs.declared.seat.Cursor.{Cursor}
use Rattle.trace_rows.specs.Rows.{PlainSheet, PlainSeat, node_rows, node_cursor, lines_behind, taken, entry_row, entry_rows, lines_behind_entry}
use Rattle.trace_tables.specs.declared.shown.ShownProcedure.{ShownProcedure}
use Rattle.trace_tables.specs.Counts.{none, with_nodes}
use Rattle.trace_tables.specs.Headings.{title_text, which_text, numbers_text, table_open, table_close}

-- a procedure that is shown: its number, how many registers there are, its flow in traces with their results, policies and
-- parents, the lines of its code, the words of the image, the word where it begins, and how many words each part of it has
pub record Shown : Type 0 where
  pub number : ℕ
  pub registers : ℕ
  pub flow : Flow
  pub traces : List Trace
  pub outs : List TraceOut
  pub lines : List CodeLine
  pub policies : List Used
  pub parents : List (Option ℕ)
  pub code : List ℕ
  pub entry : ℕ
  pub widths : List ℕ

abbrev pub plain_shown : ShownProcedure → Shown
plain_shown s = record {
  number = s.number;
  registers = s.registers;
  flow = s.flow.now;
  traces = s.traces.now;
  outs = s.outs.now;
  lines = s.lines.now;
  policies = s.policies.now;
  parents = s.parents.now;
  code = s.code.now;
  entry = s.entry;
  widths = s.widths.now;
}

abbrev pub sheet_of : Shown → PlainSheet
sheet_of s = record { procedure = s.number; code = s.code; widths = s.widths }

---- Edges

-- the edge of a block's jump, or that to the block
abbrev pub last_edge : ℕ → End → EdgeName
last_edge n (Jump to args) = To to
last_edge n (Branch c a b one other) = To n
last_edge n (Nonzero a one other) = To n
last_edge n (Return a) = To n
last_edge n (Trap kind) = To n

-- of a block without lines that a test leads to, the edge to it or its jump's
abbrev pub either_edge : ℕ → End → EdgeName
either_edge n (Jump to args) = Either n to
either_edge n (Branch c a b one other) = To n
either_edge n (Nonzero a one other) = To n
either_edge n (Return a) = To n
either_edge n (Trap kind) = To n

-- whether a test leads to a block with these predecessors
abbrev pub is_tested : List Node → List ℕ → Bool
is_tested nodes [] = false
is_tested nodes (p ∷ ps) = is_test (node_at nodes p).end

abbrev pub empty_edge : Bool → ℕ → End → EdgeName
empty_edge true n end = either_edge n end
empty_edge false n end = last_edge n end

abbrev pub first_edge : List Node → ℕ → List Line → EdgeName
first_edge nodes n [] = empty_edge (is_tested nodes (node_at nodes n).preds) n (node_at nodes n).end
first_edge nodes n (l ∷ ls) = To n

---- Blocks

-- the block of a number, which is the i-th of trace t
abbrev pub seat_of : Shown → (t i n : ℕ) → PlainSeat
seat_of s t i n = record {
  block = n;
  node = node_at s.flow.nodes n;
  start = slice_index_or (out_at s.outs t).starts i no_places;
  end = slice_index_or (out_at s.outs t).ends i no_places;
  named = slice_index_or (out_at s.outs t).regs i [];
  first_edge = first_edge s.flow.nodes n (slice_index_or (out_at s.outs t).lines i []);
  last_edge = last_edge n (node_at s.flow.nodes n).end;
}

-- the rows of a trace's blocks, the first of which is the i-th, where these lines are ahead
abbrev pub blocks_rows : Shown → (t i : ℕ) → List ℕ → List CodeLine → Cursor → List ℕ
blocks_rows s t i [] lines c = []
blocks_rows s t i (n ∷ ns) lines c =
    node_rows (sheet_of s) (seat_of s t i n) lines c
    ++ blocks_rows s t (suc i) ns (lines_behind lines) (node_cursor s.widths (node_at s.flow.nodes n).lirs lines c)

-- the lines behind so many blocks, and how far that is
abbrev pub lines_behind_blocks : List ℕ → List CodeLine → List CodeLine
lines_behind_blocks [] lines = lines
lines_behind_blocks (n ∷ ns) lines = lines_behind_blocks ns (lines_behind lines)

abbrev pub blocks_cursor : Shown → List ℕ → List CodeLine → Cursor → Cursor
blocks_cursor s [] lines c = c
blocks_cursor s (n ∷ ns) lines c = blocks_cursor s ns (lines_behind lines) (node_cursor s.widths (node_at s.flow.nodes n).lirs lines c)

---- Traces

unfoldable pub heading : Shown → ℕ → List ℕ → List ℕ
heading s t blocks =
    title_text t
    ++ (which_text (slice_get s.policies t) blocks (greatest s.flow.nodes 0 blocks)
    ++ numbers_text (with_nodes none (out_at s.outs t).lines) (slice_index_or s.parents t None))

unfoldable pub table_text : Shown → ℕ → List ℕ → List CodeLine → Cursor → List ℕ
table_text s t blocks lines c = heading s t blocks ++ (table_open s.registers ++ (blocks_rows s t 0 blocks lines c ++ table_close))

abbrev pub tables_from : Shown → ℕ → List Trace → List CodeLine → Cursor → List ℕ
tables_from s t [] lines c = []
tables_from s t (trace ∷ traces) lines c =
    table_text s t trace.nodes lines c
    ++ tables_from s (suc t) traces (lines_behind_blocks trace.nodes lines) (blocks_cursor s trace.nodes lines c)

---- The whole

abbrev pub first_cursor : ℕ → Cursor
first_cursor entry = record { word = entry; part = 0; used = 0; begun = false }

unfoldable pub entry_title : List ℕ
entry_title = codes "<h3><b>entry</b></h3>\n"

-- what stands before the traces: the entry's words, and the steps of its edge
unfoldable pub entry_table : Shown → List ℕ
entry_table s =
    let regs = (slice_index_or (out_at s.outs 0).starts 0 no_places).regs in
    entry_title ++ (table_open s.registers ++ (entry_row (sheet_of s) (first_cursor s.entry) regs ++ (entry_rows s.lines regs ++ table_close)))

abbrev pub tables_text : Shown → List ℕ
tables_text s = entry_table s ++ tables_from s 0 s.traces (lines_behind_entry s.lines) (taken s.widths (first_cursor s.entry))
