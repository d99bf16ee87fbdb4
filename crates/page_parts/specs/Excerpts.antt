-- The source of a procedure, as a page shows it.
use Rattle.std.specs.Prelude.{ℕ, ◌+◌, ◌-◌, nat_lt, min, List, [], ◌++◌, codes, take, length, if◌then◌else◌}
use Rattle.std.specs.Fmt.{decimal}
use Rattle.html_text.specs.Escapes.{escaped}
use Rattle.page_parts.specs.Sources.{lines_between}

-- the most lines of a procedure that are shown, and the most bytes of these
abbrev pub most_lines : ℕ
most_lines = 200

abbrev pub most_bytes : ℕ
most_bytes = 16384

-- the line behind those that are shown
abbrev pub behind_shown : (first behind : ℕ) → ℕ
behind_shown first behind = min behind (first + most_lines)

-- so many lines are left out
unfoldable pub more_lines : ℕ → List ℕ
more_lines count = codes "<i>and " ++ (decimal count ++ codes " more lines</i>")

-- those from that one on, where there are any
unfoldable pub lines_left : (shown behind : ℕ) → List ℕ
lines_left shown behind = if nat_lt shown behind then more_lines (behind - shown) else []

-- that bytes are left out
unfoldable pub bytes_left : List ℕ → List ℕ
bytes_left lines = if nat_lt most_bytes (length lines) then codes "<i>and more in these lines</i>\n" else []

unfoldable pub cut_lines : List ℕ → List ℕ
cut_lines lines = escaped (take most_bytes lines) ++ bytes_left lines

-- the lines of a procedure, from its heading to before those of the next one
unfoldable pub source_text : List ℕ → (first behind : ℕ) → List ℕ
source_text text first behind =
    codes "<pre>" ++ (cut_lines (lines_between text first (behind_shown first behind)) ++ (lines_left (behind_shown first behind) behind ++ codes "</pre>"))

-- the line of its heading, or the beginning of it
unfoldable pub heading_text : List ℕ → (first : ℕ) → List ℕ
heading_text text first = escaped (take 120 (lines_between text first (first + 1)))
