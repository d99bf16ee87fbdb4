-- The text of an integer, as Oberon's Out.Int writes it.
use Rattle.std.specs.Prelude.{ℕ, ◌-◌, ◌^◌, List, ◌++◌, length, replicate, min, nat_lt, if◌then◌else◌}
use Rattle.std.specs.Int.{w64, cast_signed}
use Rattle.std.specs.Fmt.{signed_decimal}

-- the shortest decimal text of the 64-bit number, read as a signed one, with its sign
abbrev pub shortest_text : ℕ → List ℕ
shortest_text value = signed_decimal (cast_signed w64 value)

-- the width that counts, of a 64-bit number read as a signed one: 0 for a negative one, and at most 255
abbrev pub counted_width : ℕ → ℕ
counted_width width = if nat_lt width (2 ^ 63) then min width 255 else 0

-- the number's shortest text after as many blanks as the width wants
abbrev pub int_text : ℕ → ℕ → List ℕ
int_text value width = replicate (counted_width width - length (shortest_text value)) 32 ++ shortest_text value
