-- The table that sums up procedures.
use Rattle.std.specs.Prelude.{ℕ, Bool, List, [], ◌++◌, map, flat_map, slice_get, Option, Some, None}
use Rattle.image_form.specs.declared.image.ProcPlace.{ProcPlace}
use Rattle.whole_page.specs.Frames.{against, heads_close, summary, summary_close}
use Rattle.page_parts.specs.declared.order.Rank.{Rank}
use Rattle.page_parts.specs.Order.{ordered}
use Rattle.page_rows.specs.declared.row.Row.{Row}
use Rattle.page_rows.specs.Headings.{heading_at, place_at}
use Rattle.page_rows.specs.Rows.{row_text}

abbrev pub rank_of : Row → Rank
rank_of row = record { weight = row.traffic.weight; number = row.number }

abbrev pub listed : List (List ℕ) → List ProcPlace → Option Row → List ℕ
listed texts places None = []
listed texts places (Some row) = row_text (heading_at texts (place_at places row.number)) row

-- the row of a procedure
unfoldable pub ranked_text : List (List ℕ) → List ProcPlace → List Row → Rank → List ℕ
ranked_text texts places rows rank = listed texts places (slice_get rows rank.number)

-- the procedures whose stores and loads of homes run most often first
unfoldable pub ranked_texts : List (List ℕ) → List ProcPlace → List Row → List Rank → List ℕ
ranked_texts texts places rows ranks = flat_map (ranked_text texts places rows) ranks

-- the head of the table
unfoldable pub heads_text : (other : Bool) → List ℕ
heads_text other = summary ++ (against other ++ heads_close)

unfoldable pub summary_text : List (List ℕ) → List ProcPlace → List Row → (other : Bool) → List ℕ
summary_text texts places rows other = heads_text other ++ (ranked_texts texts places rows (ordered (map rank_of rows)) ++ summary_close)
