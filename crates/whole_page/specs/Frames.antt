-- What every page has: its style, its script, and the heads of its tables.
use Rattle.std.specs.Prelude.{List, ℕ, Bool, true, false, []}
use Rattle.whole_page.specs.declared.frames.TheConstants.{BEGINNING, STYLE, MARKER, SUMMARY, AGAINST, SCRIPT, SUM_OPEN, HINT, HEADS_CLOSE, SUMMARY_CLOSE, PAIR_OPEN, PAIR_NEXT, PAIR_CLOSE, SECTION_CLOSE}

-- up to the title
unfoldable pub beginning : List ℕ
beginning = BEGINNING.now

-- from the title's end to the body, with the style for light and dark, and for print
unfoldable pub style : List ℕ
style = STYLE.now

-- from the body's beginning to the heading, with the arrow head of drawings
unfoldable pub marker : List ℕ
marker = MARKER.now

-- the head of the table that sums up procedures
unfoldable pub summary : List ℕ
summary = SUMMARY.now

-- and of the columns of another policy
unfoldable pub against : Bool → List ℕ
against false = []
against true = AGAINST.now

-- the script that lights a value where it is pointed at, and the page's end
unfoldable pub script : List ℕ
script = SCRIPT.now

---- Around parts

-- the line below the page's heading, and the header's end
unfoldable pub sum_open : List ℕ
sum_open = SUM_OPEN.now

unfoldable pub hint : List ℕ
hint = HINT.now

-- the end of a table's head, and of the table that sums up
unfoldable pub heads_close : List ℕ
heads_close = HEADS_CLOSE.now

unfoldable pub summary_close : List ℕ
summary_close = SUMMARY_CLOSE.now

-- a drawing, and tables beside it
unfoldable pub pair_open : List ℕ
pair_open = PAIR_OPEN.now

unfoldable pub pair_next : List ℕ
pair_next = PAIR_NEXT.now

unfoldable pub pair_close : List ℕ
pair_close = PAIR_CLOSE.now

-- a section's end
unfoldable pub section_close : List ℕ
section_close = SECTION_CLOSE.now
