-- The tables of a procedure's traces.
use Rattle.std.specs.Prelude.{ℕ, ◌+◌, List, [], map, slice_get, Option, Some, None}
use Rattle.lir_core.specs.declared.flow.Flow.{Flow}
use Rattle.lir_core.specs.declared.flow.Trace.{Trace}
use Rattle.lir_core.specs.declared.flow.Node.{Node}
use Rattle.placed_code.specs.Placed.{Placed}
use Rattle.alloc_choice.specs.declared.choice.Policy.{Policy}
use Rattle.alloc_choice.specs.declared.choice.Used.{Used}
use Rattle.alloc_choice.specs.Choice.{used}
use Rattle.line_words.specs.LineWidths.{line_widths}
use Rattle.trace_tables.specs.Tables.{Shown, tables_text}
use Rattle.page_rows.specs.Headings.{place_at}
use Rattle.whole_page.specs.Views.{View, lines_at, outs_at, parents_at, traces_at}

-- by what each of these traces is given places
abbrev pub used_of : Policy → List Node → Trace → Used
used_of policy nodes trace = used policy nodes trace.nodes

abbrev pub policies_of : Policy → List Node → List Trace → List Used
policies_of policy nodes traces = map (used_of policy nodes) traces

-- a procedure as its tables show it, under a number that is so much greater
abbrev pub shown_of : View → (shift n : ℕ) → Flow → Placed → Shown
shown_of view shift n flow placed = record {
  number = shift + n;
  registers = view.registers;
  flow = flow;
  traces = traces_at view n;
  outs = outs_at view n;
  lines = lines_at view n;
  policies = policies_of view.policy flow.nodes (traces_at view n);
  parents = parents_at view n;
  code = view.code;
  entry = (place_at view.places n).word;
  widths = line_widths placed;
}

unfoldable pub tables_of : Shown → List ℕ
tables_of shown = tables_text shown

-- where there is such a procedure
abbrev pub maybe_tables : View → (shift n : ℕ) → Option Flow → Option Placed → List ℕ
maybe_tables view shift n (Some flow) (Some placed) = tables_of (shown_of view shift n flow placed)
maybe_tables view shift n (Some flow) None = []
maybe_tables view shift n None placed = []

unfoldable pub tables_at : View → (shift n : ℕ) → List ℕ
tables_at view shift n = maybe_tables view shift n (slice_get view.flows n) (slice_get view.plans n)
