-- The rows of all procedures.
use Rattle.std.specs.Prelude.{ℕ, suc, ◌+◌, ◌-◌, nat_lt, List, [], ◌∷◌, length, Option, Some, None, if◌then◌else◌}
use Rattle.lir_core.specs.declared.flow.Node.{Node}
use Rattle.lir_core.specs.declared.flow.Flow.{Flow}
use Rattle.page_rows.specs.declared.row.Detail.{Detail}
use Rattle.page_rows.specs.declared.row.Detail.TheVariants.{Shown, Large, Late}
use Rattle.page_rows.specs.declared.row.Row.{Row}
use Rattle.page_rows.specs.declared.traffic.Traffic.{Traffic}
use Rattle.page_rows.specs.Traffic.{traffic_of}
use Rattle.whole_page.specs.Views.{View, lines_at, traces_at}

-- the most blocks of a procedure that is drawn, and the most lines of code that a page shows
abbrev pub most_blocks : ℕ
most_blocks = 400

abbrev pub most_lines : ℕ
most_lines = 200000

-- whether a procedure is drawn and tabled, where there is room for so many lines, by its blocks and its lines
abbrev pub detail_of : (room blocks lines others : ℕ) → Detail
detail_of room blocks lines others = if nat_lt most_blocks blocks then Large else (if nat_lt room (lines + others) then Late else Shown)

-- the room behind it
abbrev pub room_behind : Detail → (room lines others : ℕ) → ℕ
room_behind Shown room lines others = room - lines - others
room_behind Large room lines others = room
room_behind Late room lines others = room

-- how many lines it has by the other policy, and what these move
abbrev pub other_lines : Option View → ℕ → ℕ
other_lines None n = 0
other_lines (Some view) n = length (lines_at view n)

abbrev pub other_traffic : List Node → Option View → ℕ → Option Traffic
other_traffic nodes None n = None
other_traffic nodes (Some view) n = Some (traffic_of nodes (lines_at view n))

unfoldable pub row_of : View → Option View → (room n : ℕ) → Flow → Row
row_of own other room n flow = record {
  number = n;
  blocks = length flow.nodes;
  values = flow.values;
  traces = length (traces_at own n);
  traffic = traffic_of flow.nodes (lines_at own n);
  other = other_traffic flow.nodes other n;
  detail = detail_of room (length flow.nodes) (length (lines_at own n)) (other_lines other n);
}

-- the rows of these procedures, the first of which has this number
abbrev pub rows_from : View → Option View → (room n : ℕ) → List Flow → List Row
rows_from own other room n [] = []
rows_from own other room n (f ∷ fs) =
    row_of own other room n f
    ∷ rows_from own other (room_behind (row_of own other room n f).detail room (length (lines_at own n)) (other_lines other n)) (suc n) fs

abbrev pub rows_of : View → Option View → List Row
rows_of own other = rows_from own other most_lines 0 own.flows
