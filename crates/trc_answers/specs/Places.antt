-- The last line of a text.
use Rattle.std.specs.Prelude.{ℕ, List, [], ◌∷◌, nat_eq, if◌then◌else◌}
use Rattle.ob_judge.specs.Scopes.{line_ends}

-- the longest end of a text without the end of a line
abbrev pub last_line : List ℕ → List ℕ
last_line [] = []
last_line (b ∷ w) = if nat_eq (line_ends (b ∷ w)) 0 then b ∷ w else last_line w
