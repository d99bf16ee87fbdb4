-- Descriptors and strings as code makes them, where the first descriptor stands at an address.
use Rattle.std.specs.Prelude.{ℕ, ◌+◌, ◌-◌, ◌*◌, List, ◌++◌, length, replicate, Option, Some, None}
use Rattle.std.specs.List.{flat_map}
use Rattle.std.specs.Int.{to_le_bytes, w64}
use Rattle.ob_types.specs.Table.{Table}
use Rattle.ssa_lowered.specs.Constants.{ancestor}
use Rattle.ssa_lowered.specs.Pieces.{numbers}
use Rattle.ssa_tables.specs.Places.{string_size}

abbrev pub address_by : ℕ → Option ℕ → ℕ
address_by first None = 0
address_by first (Some r) = first + 128 * r

abbrev pub described : Table → ℕ → ℕ → List ℕ
described t first r = flat_map (λ j. to_le_bytes w64 (address_by first (ancestor t j r))) (numbers 0 16)

abbrev pub all_described : Table → ℕ → List ℕ
all_described t first = flat_map (described t first) (numbers 0 (length t.records))

-- a string with its 0X, and zeros up to where the next one begins
abbrev pub padded : List ℕ → List ℕ
padded xs = xs ++ replicate (string_size xs - length xs) 0

abbrev pub all_texts : List (List ℕ) → List ℕ
all_texts xss = flat_map padded xss
