-- Rows of bits as sets of values.
use Rattle.std.specs.Prelude.{◌≡◌, ℕ, ◌*◌, ◌/◌, ◌%◌, ◌==◌, ◌||◌, ◌&&◌, nat_lt, nat_le, List, length, filter}
use Rattle.std.specs.Int.{bit_at}
use Rattle.run_laws.specs.Layers.{places_from}
use Rattle.lir_core.specs.Rows.{is_in}

-- the values of a row of words, rising
unfoldable pub values_of : List ℕ → List ℕ
values_of words = filter (is_in words) (places_from 0 (64 * length words))

-- the values of one word of a row
unfoldable pub word_values : List ℕ → ℕ → List ℕ
word_values words at = filter (is_in words) (places_from (at * 64) 64)

-- two rows have the same values
abbrev pub AreSame : List ℕ → List ℕ → Type 0
AreSame before after = (v : ℕ) → is_in after v ≡ is_in before v

-- the bits of a word join a row at an index
abbrev pub AreJoined : ℕ → ℕ → List ℕ → List ℕ → Type 0
AreJoined at word before after = (v : ℕ) → is_in after v ≡ (is_in before v || ((v / 64 == at) && (bit_at word (v % 64) == 1)))

-- the first words of a row join another
abbrev pub AreAllJoined : List ℕ → ℕ → List ℕ → List ℕ → Type 0
AreAllJoined row count before after = (v : ℕ) → is_in after v ≡ (is_in before v || (nat_lt (v / 64) count && is_in row v))

-- of the first words of a row what another has too stays
abbrev pub AreKept : List ℕ → ℕ → List ℕ → List ℕ → Type 0
AreKept others count before after = (v : ℕ) → is_in after v ≡ (is_in before v && (nat_le count (v / 64) || is_in others v))
