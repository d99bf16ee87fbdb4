-- Numbers in words.
use Rattle.std.specs.Prelude.{ℕ, List, length, Bool, ◌&&◌, nat_le, Option, Some, None, if◌then◌else◌}
use Rattle.std.specs.List.{list_all}
use Rattle.std.specs.Str.Parse.{digits_value}

abbrev pub is_digit : ℕ → Bool
is_digit byte = nat_le 48 byte && nat_le byte 57

-- 1 to 19 decimal digits
abbrev pub is_number : List ℕ → Bool
is_number text = (nat_le 1 (length text) && nat_le (length text) 19) && list_all is_digit text

abbrev pub is_between : ℕ → ℕ → ℕ → Bool
is_between least most n = nat_le least n && nat_le n most

-- the number that a text spells, where it is `least` to `most`
abbrev pub number_between : ℕ → ℕ → List ℕ → Option ℕ
number_between least most text =
    if is_number text && is_between least most (digits_value 10 text) then Some (digits_value 10 text) else None
