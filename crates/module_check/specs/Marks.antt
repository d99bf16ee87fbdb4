-- How much of a line is marked.
use Rattle.std.specs.Prelude.{ℕ, max, suc, List, [], ◌∷◌, Bool, ◌&&◌, ◌||◌, nat_le, if◌then◌else◌}

-- a letter or a digit
abbrev pub is_letter : ℕ → Bool
is_letter byte = (nat_le 48 byte && nat_le byte 57) || (nat_le 65 byte && nat_le byte 90) || (nat_le 97 byte && nat_le byte 122)

-- how many letters and digits stand at a text's beginning
abbrev pub letters : List ℕ → ℕ
letters [] = 0
letters (b ∷ bs) = if is_letter b then suc (letters bs) else 0

-- how many bytes are marked there: the letters and digits, and at least one byte
abbrev pub marked : List ℕ → ℕ
marked text = max 1 (letters text)
