-- Lines of texts, and the lines of a procedure.
use Rattle.std.specs.Prelude.{ℕ, suc, ◌-◌, ◌==◌, ◌&&◌, nat_lt, Bool, true, List, [], ◌∷◌, take, drop, length, get_or, if◌then◌else◌}
use Rattle.image_form.specs.declared.image.ProcPlace.{ProcPlace}

---- Lines

-- where lines begin: at each byte that stands first or behind a line's end; the first byte here has this number, and such a place or not
abbrev pub starts_from : (fresh : Bool) → ℕ → List ℕ → List ℕ
starts_from fresh at [] = []
starts_from fresh at (b ∷ bs) = if fresh then at ∷ starts_from (b == 10) (suc at) bs else starts_from (b == 10) (suc at) bs

abbrev pub line_starts : List ℕ → List ℕ
line_starts text = starts_from true 0 text

-- where the line of this number begins, from 1; at the text's end, where there is none
abbrev pub start_of : List ℕ → ℕ → ℕ
start_of text line = get_or (line_starts text) (line - 1) (length text)

-- the bytes from one place to before another
abbrev pub part : List ℕ → (from to : ℕ) → List ℕ
part text from to = take (to - from) (drop from text)

-- the lines from this one to before that one
abbrev pub lines_between : List ℕ → (first behind : ℕ) → List ℕ
lines_between text first behind = part text (start_of text first) (start_of text behind)

-- the number behind those of all lines
abbrev pub behind_all : List ℕ → ℕ
behind_all text = suc (length (line_starts text))

---- Procedures

-- a procedure of this module has its heading behind this line, and before that one
abbrev pub begins_between : (own line least : ℕ) → ProcPlace → Bool
begins_between own line least p = p.«module» == own && nat_lt line p.line && nat_lt p.line least

-- the first line behind this one that is a heading of a procedure of the module, or `least`, where none stands before it
abbrev pub next_heading : List ProcPlace → (own line least : ℕ) → ℕ
next_heading [] own line least = least
next_heading (p ∷ ps) own line least = next_heading ps own line (if begins_between own line least p then p.line else least)
