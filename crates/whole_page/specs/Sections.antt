-- The section of a procedure.
use Rattle.std.specs.Prelude.{ℕ, List, [], ◌++◌, codes, flat_map, length, slice_get, Option, Some, None}
use Rattle.lir_core.specs.declared.flow.Flow.{Flow}
use Rattle.lir_core.specs.declared.flow.Trace.{Trace}
use Rattle.alloc_choice.specs.declared.choice.Policy.{Policy}
use Rattle.flow_drawing.specs.Drawings.{drawing_text}
use Rattle.page_rows.specs.declared.row.Detail.{Detail}
use Rattle.page_rows.specs.declared.row.Detail.TheVariants.{Shown, Large, Late}
use Rattle.page_rows.specs.declared.row.Row.{Row}
use Rattle.page_rows.specs.Headings.{place_at}
use Rattle.page_rows.specs.Sections.{head_text}
use Rattle.whole_page.specs.Choices.{policy_text}
use Rattle.whole_page.specs.Frames.{pair_close, pair_next, pair_open, section_close}
use Rattle.whole_page.specs.Tables.{tables_at}
use Rattle.whole_page.specs.Views.{View, traces_at}

-- the drawing of its flow, where there is one
unfoldable pub drawing_of : (procedure : ℕ) → Flow → List Trace → List ℕ
drawing_of procedure flow traces = drawing_text procedure flow traces

abbrev pub maybe_drawing : View → ℕ → Option Flow → List ℕ
maybe_drawing view n None = []
maybe_drawing view n (Some flow) = drawing_of n flow (traces_at view n)

unfoldable pub graph_text : View → ℕ → List ℕ
graph_text view n = maybe_drawing view n (slice_get view.flows n)

-- what stands above the tables by a policy, where there are those by another
unfoldable pub column_text : Policy → List ℕ
column_text policy = codes "<h4>" ++ (policy_text policy ++ codes "</h4>\n")

unfoldable pub own_column : Option View → Policy → List ℕ
own_column None policy = []
own_column (Some other) policy = column_text policy

-- the tables by the other policy, whose numbers are behind those of all procedures
unfoldable pub other_tables : Option View → (shift n : ℕ) → List ℕ
other_tables None shift n = []
other_tables (Some view) shift n = pair_next ++ (column_text view.policy ++ tables_at view shift n)

-- the drawing, and the tables beside it
unfoldable pub shown_text : View → Option View → ℕ → List ℕ
shown_text own other n =
    pair_open ++ (graph_text own n ++ (pair_next ++ (own_column other own.policy ++ (tables_at own 0 n ++ (other_tables other (length own.flows) n ++ pair_close)))))

-- where it is drawn and tabled
unfoldable pub body_text : View → Option View → ℕ → Detail → List ℕ
body_text own other n Shown = shown_text own other n
body_text own other n Large = []
body_text own other n Late = []

unfoldable pub section_text : List (List ℕ) → View → Option View → Row → List ℕ
section_text texts own other row =
    head_text texts own.places (place_at own.places row.number) row ++ (body_text own other row.number row.detail ++ section_close)

abbrev pub sections_text : List (List ℕ) → View → Option View → List Row → List ℕ
sections_text texts own other rows = flat_map (section_text texts own other) rows
