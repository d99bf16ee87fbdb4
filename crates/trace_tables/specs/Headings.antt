-- What stands above the table of a trace.
use Rattle.std.specs.Prelude.{ℕ, zero, suc, List, [], ◌++◌, codes, Option, Some, None}
use Rattle.std.specs.Fmt.{decimal}
use Rattle.alloc_choice.specs.declared.choice.Used.{Used}
use Rattle.flow_drawing.specs.Texts.{hue, times_text}
use Rattle.trace_report.specs.Lines.{name_of, blocks_text}
use Rattle.trace_tables.specs.declared.counts.Counts.{Counts}

---- Marks, each under a name, so that proofs needn't look into them

-- before the hue of a trace
unfoldable pub title_begin : List ℕ
title_begin = codes "<h3 style=\"--h:"

-- before the number of a trace, and behind it
unfoldable pub number_begin : List ℕ
number_begin = codes "\"><b>trace "

unfoldable pub number_end : List ℕ
number_end = codes "</b><span>"

-- before the number of the trace that gives the hint, and behind all
unfoldable pub hint_mark : List ℕ
hint_mark = codes " &#183; hint from trace "

unfoldable pub heading_end : List ℕ
heading_end = codes "</span></h3>\n"

-- before the blocks of a trace, and before how often it runs
unfoldable pub blocks_mark : List ℕ
blocks_mark = codes " &#183; blocks "

unfoldable pub times_mark : List ℕ
times_mark = codes " &#183; "

unfoldable pub times_end : List ℕ
times_end = codes "&#215; &#183; "

-- before the columns of registers, and behind them
unfoldable pub table_begin : List ℕ
table_begin = codes "<div class=\"wide\"><table><tr><th>operations and moves</th>"

unfoldable pub columns_end : List ℕ
columns_end = codes "<th>homes</th><th>words</th></tr>\n"

---- What is told of a trace

-- a trace by its number, in its colour
unfoldable pub title_text : ℕ → List ℕ
title_text trace = title_begin ++ (decimal (hue trace) ++ (number_begin ++ (decimal trace ++ number_end)))

abbrev pub policy_text : Option Used → List ℕ
policy_text None = []
policy_text (Some used) = name_of used

-- by what it has its places, which blocks it has, and how often the most frequent of them runs
unfoldable pub which_text : Option Used → (blocks : List ℕ) → (most : ℕ) → List ℕ
which_text used blocks most = policy_text used ++ (blocks_mark ++ (blocks_text blocks ++ (times_mark ++ (times_text most ++ times_end))))

unfoldable pub counts_text : Counts → List ℕ
counts_text c = decimal c.stores ++ (codes " stores, " ++ (decimal c.loads ++ (codes " loads, " ++ (decimal c.moves ++ codes " moves"))))

-- the trace whose result is its hint
abbrev pub hint_text : Option ℕ → List ℕ
hint_text None = []
hint_text (Some parent) = hint_mark ++ decimal parent

unfoldable pub numbers_text : Counts → Option ℕ → List ℕ
numbers_text counts parent = counts_text counts ++ (hint_text parent ++ heading_end)

---- Columns

unfoldable pub column_text : ℕ → List ℕ
column_text r = codes "<th>X" ++ (decimal r ++ codes "</th>")

-- so many registers, from X0 on
abbrev pub columns_text : ℕ → List ℕ
columns_text zero = []
columns_text (suc r) = columns_text r ++ column_text r

unfoldable pub table_open : ℕ → List ℕ
table_open registers = table_begin ++ (columns_text registers ++ columns_end)

unfoldable pub table_close : List ℕ
table_close = codes "</table></div>\n"
