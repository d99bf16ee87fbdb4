-- A value joins a row.
use Rattle.std.specs.Prelude.{ℕ, ◌/◌, ◌%◌, ◌*◌, ◌^◌, Bool, not, ◌&&◌, nat_lt, List, [], length, cond, slice_index, slice_index_or, slice_set}
use Rattle.std.specs.Int.Bits.{bit_or}
use Rattle.lir_core.specs.Rows.{has_bit}

abbrev pub row_at : List (List ℕ) → ℕ → List ℕ
row_at rows n = slice_index_or rows n []

-- there is a bit for value v in the n-th row
abbrev pub has_room : List (List ℕ) → ℕ → ℕ → Bool
has_room rows n v = nat_lt n (length rows) && nat_lt (v / 64) (length (row_at rows n))

-- there is one, and it isn't set
abbrev pub is_new : List (List ℕ) → ℕ → ℕ → Bool
is_new rows n v = has_room rows n v && not (has_bit rows n v)

abbrev pub with_value : List ℕ → ℕ → List ℕ
with_value row v = slice_set row (v / 64) (bit_or (slice_index row (v / 64)) (1 * 2 ^ (v % 64) % 2 ^ 64))

abbrev pub with_bit : List (List ℕ) → ℕ → ℕ → List (List ℕ)
with_bit rows n v = slice_set rows n (with_value (row_at rows n) v)

abbrev pub inserted : List (List ℕ) → ℕ → ℕ → List (List ℕ)
inserted rows n v = cond (is_new rows n v) (with_bit rows n v) rows
