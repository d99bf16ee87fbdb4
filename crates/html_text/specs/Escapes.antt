-- What is written in a page for bytes.
use Rattle.std.specs.Prelude.{ℕ, ◌==◌, ◌||◌, ◌&&◌, nat_le, Bool, List, [], ◌∷◌, codes, if◌then◌else◌}
use Rattle.std.specs.List.{flat_map}

-- a byte of printed ASCII, a blank among them, or the end of a line, or a tab
abbrev pub is_printed : ℕ → Bool
is_printed b = b == 9 || b == 10 || nat_le 32 b && nat_le b 126

-- an entity for what means something in HTML, and the mark of an unknown character for what is no printed ASCII
abbrev pub escaped_byte : ℕ → List ℕ
escaped_byte b =
    if b == 38 then codes "&amp;"
    else (if b == 60 then codes "&lt;"
    else (if b == 62 then codes "&gt;"
    else (if b == 34 then codes "&quot;"
    else (if b == 39 then codes "&#39;"
    else (if is_printed b then b ∷ [] else codes "&#xFFFD;")))))

abbrev pub escaped : List ℕ → List ℕ
escaped bytes = flat_map escaped_byte bytes
