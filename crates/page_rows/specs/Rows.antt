-- The table that sums up procedures.
use Rattle.std.specs.Prelude.{ℕ, ◌/◌, List, [], ◌++◌, codes, Option, Some, None}
use Rattle.std.specs.Fmt.{decimal}
use Rattle.page_rows.specs.declared.row.Detail.{Detail}
use Rattle.page_rows.specs.declared.row.Detail.TheVariants.{Shown, Large, Late}
use Rattle.page_rows.specs.declared.row.Row.{Row}
use Rattle.page_rows.specs.declared.traffic.Traffic.{Traffic}

-- a number in decimal between two texts
unfoldable pub labelled : List ℕ → ℕ → List ℕ → List ℕ
labelled before n behind = before ++ (decimal n ++ behind)

-- a cell with a number
abbrev pub number_cell : ℕ → List ℕ
number_cell n = labelled (codes "<td>") n (codes "</td>")

-- a weight, as how many times in a run of the procedure, rounded down
abbrev pub times : ℕ → ℕ
times weight = weight / 1048576

unfoldable pub traffic_cells : Traffic → List ℕ
traffic_cells t = number_cell (times t.weight) ++ (number_cell t.stores ++ (number_cell t.loads ++ number_cell t.moves))

unfoldable pub maybe_cells : Option Traffic → List ℕ
maybe_cells None = []
maybe_cells (Some t) = traffic_cells t

unfoldable pub size_cells : Row → List ℕ
size_cells row = number_cell row.blocks ++ (number_cell row.values ++ number_cell row.traces)

-- why a procedure is neither drawn nor tabled
unfoldable pub detail_note : Detail → List ℕ
detail_note Shown = []
detail_note Large = codes " <em>not drawn: over 400 blocks</em>"
detail_note Late = codes " <em>not drawn: the page has 200,000 lines of code</em>"

-- what opens the row of a procedure, with the link to its section
unfoldable pub row_open : ℕ → List ℕ
row_open number = labelled (codes "<tr><td class=\"text\"><a href=\"#p") number (codes "\">")

-- a procedure's heading, which leads to its section
unfoldable pub title_cell : (heading : List ℕ) → Row → List ℕ
title_cell heading row = row_open row.number ++ (heading ++ (codes "</a>" ++ (detail_note row.detail ++ codes "</td>")))

-- its size, and what its code moves, by another policy too
unfoldable pub number_cells : Row → List ℕ
number_cells row = size_cells row ++ (traffic_cells row.traffic ++ maybe_cells row.other)

unfoldable pub row_text : (heading : List ℕ) → Row → List ℕ
row_text heading row = title_cell heading row ++ (number_cells row ++ codes "</tr>\n")
