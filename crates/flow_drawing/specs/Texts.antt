-- The parts of a drawing as SVG.
use Rattle.std.specs.Prelude.{ℕ, ◌+◌, ◌*◌, ◌/◌, ◌%◌, ◌==◌, nat_lt, min, max, Bool, true, false, List, [], ◌∷◌, ◌++◌, codes, slice_index_or, Option, Some, None, if◌then◌else◌}
use Rattle.std.specs.Fmt.{decimal}
use Rattle.flow_drawing.specs.declared.layout.Corner.{Corner}
use Rattle.flow_drawing.specs.declared.standings.Standing.{Standing}
use Rattle.flow_drawing.specs.Paths.{curve_of, curve_text}

-- an attribute with a number
unfoldable pub attribute : List ℕ → ℕ → List ℕ
attribute name n = codes " " ++ (name ++ (codes "=\"" ++ (decimal n ++ codes "\"")))

abbrev pub place_text : ℕ → ℕ → List ℕ
place_text x y = attribute (codes "x") x ++ attribute (codes "y") y

---- Colours

-- the hues of ten traces, in degrees
abbrev pub hues : List ℕ
hues = 211 ∷ 32 ∷ 152 ∷ 340 ∷ 268 ∷ 96 ∷ 12 ∷ 186 ∷ 300 ∷ 54 ∷ []

abbrev pub hue : ℕ → ℕ
hue trace = slice_index_or hues (trace % 10) 0

abbrev pub hue_text : ℕ → List ℕ
hue_text trace = codes "\" style=\"--h:" ++ decimal (hue trace)

---- How often a block runs

-- relative to the entry, which runs 2^20 times: the whole part from once on, else in hundredths, rounded down
abbrev pub hundredths_text : ℕ → List ℕ
hundredths_text n = codes "0." ++ (decimal (n / 10) ++ decimal (n % 10))

abbrev pub times_text : ℕ → List ℕ
times_text freq = if nat_lt freq 1048576 then hundredths_text (freq * 100 / 1048576) else decimal (freq / 1048576)

-- the width of the bar that tells it, where the most frequent block runs so often: at most 104
abbrev pub heat : (most freq : ℕ) → ℕ
heat most freq = min (freq * 104 / max most 1) 104

---- Edges

-- where the target is the next block of the trace of an edge's source
abbrev pub is_next : Option ℕ → ℕ → Bool
is_next None to = false
is_next (Some n) to = n == to

-- its colour
abbrev pub inside_text : Option Standing → ℕ → List ℕ
inside_text None to = []
inside_text (Some s) to = if is_next s.next to then codes " inside" ++ hue_text s.trace else []

abbrev pub back_text : Bool → List ℕ
back_text true = codes " back"
back_text false = []

-- the end of an edge, with the head of an arrow
unfoldable pub arrow_text : List ℕ
arrow_text = codes "\" marker-end=\"url(#a)\"/>"

-- an edge between two boxes
unfoldable pub path_text : (is_back : Bool) → Option Standing → (to : ℕ) → Corner → Corner → List ℕ
path_text is_back standing to from_box to_box =
    codes "<path class=\"edge" ++ (back_text is_back ++ (inside_text standing to
    ++ (codes "\" d=\"" ++ (curve_text (curve_of is_back from_box to_box) ++ arrow_text))))

---- Boxes

-- the link to the block's row
unfoldable pub link_text : (procedure b : ℕ) → List ℕ
link_text procedure b = codes "<a href=\"#p" ++ (decimal procedure ++ (codes "-b" ++ (decimal b ++ codes "\"><g class=\"block")))

abbrev pub group_text : Option Standing → List ℕ
group_text None = codes "\">"
group_text (Some s) = hue_text s.trace ++ codes "\">"

unfoldable pub box_size_text : List ℕ
box_size_text = codes " width=\"116\" height=\"46\" rx=\"6\"/>"

unfoldable pub outline_text : Corner → List ℕ
outline_text c = codes "<rect" ++ (place_text c.x c.y ++ box_size_text)

unfoldable pub name_text : Corner → ℕ → List ℕ
name_text c b = codes "<text" ++ (place_text (c.x + 58) (c.y + 19) ++ (codes ">block " ++ (decimal b ++ codes "</text>")))

abbrev pub trace_text : Option Standing → List ℕ
trace_text None = codes "no trace"
trace_text (Some s) = codes "trace " ++ decimal s.trace

-- the trace, and how often the block runs
unfoldable pub small_text : Corner → Option Standing → (freq : ℕ) → List ℕ
small_text c standing freq =
    codes "<text class=\"small\"" ++ (place_text (c.x + 58) (c.y + 35) ++ (codes ">"
    ++ (trace_text standing ++ (codes " &#183; " ++ (times_text freq ++ codes "&#215;</text>")))))

unfoldable pub bar_text : Corner → ℕ → List ℕ
bar_text c width = codes "<rect class=\"heat\"" ++ (place_text (c.x + 6) (c.y + 40) ++ (attribute (codes "width") width ++ codes " height=\"3\"/>"))
