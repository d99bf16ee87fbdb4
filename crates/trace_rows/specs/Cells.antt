-- The cells of a row: what registers have, homes, words.
use Rattle.std.specs.Prelude.{ℕ, suc, ◌-◌, ◌*◌, ◌%◌, ◌==◌, nat_le, Bool, true, false, List, [], ◌∷◌, ◌++◌, codes, take, drop, length, Option, Some, None, if◌then◌else◌}
use Rattle.std.specs.List.{list_any}
use Rattle.std.specs.Fmt.{decimal}
use Rattle.a64_text.specs.Words.{word_text_at}
use Rattle.trace_rows.specs.Marks.{off_begin, on_begin, number_begin, hue_begin, held_begin}
use Rattle.trace_rows.specs.Operations.{values_text}

-- the hue of a value
abbrev pub value_hue : ℕ → ℕ
value_hue v = v * 47 % 360

abbrev pub hit_text : Bool → List ℕ
hit_text true = codes " hit"
hit_text false = []

-- a value in its colour
unfoldable pub held_text : ℕ → List ℕ
held_text v = number_begin ++ (decimal v ++ (hue_begin ++ (decimal (value_hue v) ++ (held_begin ++ decimal v))))

-- a register's cell
unfoldable pub cell_text : Bool → Option ℕ → List ℕ
cell_text hit None = off_begin ++ (hit_text hit ++ codes "\"></td>")
cell_text hit (Some v) = on_begin ++ (hit_text hit ++ (held_text v ++ codes "</td>"))

-- the cells of registers, the first of which has number r; those that are hit are framed
abbrev pub cells_text : List ℕ → ℕ → List (Option ℕ) → List ℕ
cells_text hits r [] = []
cells_text hits r (held ∷ regs) = cell_text (list_any (λ h. h == r) hits) held ++ cells_text hits (suc r) regs

---- Homes

-- the most homes that a block's first row lists
abbrev pub most_homes : ℕ
most_homes = 24

abbrev pub left_out : ℕ → List ℕ
left_out n = codes " and " ++ (decimal n ++ codes " more")

unfoldable pub homes_text : List ℕ → List ℕ
homes_text vs = if nat_le (length vs) most_homes then values_text vs else values_text (take most_homes vs) ++ left_out (length vs - most_homes)

---- Words

-- a word with its number in the code
unfoldable pub word_line : ℕ → ℕ → List ℕ
word_line at word = codes "<b>" ++ (decimal at ++ (codes "</b> " ++ (word_text_at word at ++ codes "<br/>")))

abbrev pub word_lines : ℕ → List ℕ → List ℕ
word_lines at [] = []
word_lines at (w ∷ ws) = word_line at w ++ word_lines (suc at) ws

-- so many words of the code, from a place on
unfoldable pub words_text : List ℕ → (at width : ℕ) → List ℕ
words_text code at width = word_lines at (take width (drop at code))
