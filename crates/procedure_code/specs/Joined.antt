-- Pieces in a row, with their holes filled.
use Rattle.std.specs.Prelude.{ℕ, ◌+◌, List, [], ◌∷◌, length, slice_set}
use Rattle.a64_table.specs.Table.{word_of}
use Rattle.procedure_pieces.specs.Pieces.{Hole, Piece, put_in, filled}

-- the holes of words that stand from word k on, among all words
abbrev pub filled_at : (ℕ → ℕ) → (start k : ℕ) → List Hole → List ℕ → List ℕ
filled_at entry start k [] words = words
filled_at entry start k (h ∷ hs) words = filled_at entry start k hs (slice_set words (k + h.at) (word_of (put_in entry start (k + h.at) h.what)))

abbrev pub filled_by : (ℕ → ℕ) → ℕ → ℕ → ℕ → Piece → List ℕ
filled_by entry start j k piece = filled entry start k piece

-- where pieces begin of which the first one does at word k, and behind them where the last one ends
abbrev pub begin_from : ℕ → List Piece → List ℕ
begin_from k [] = k ∷ []
begin_from k (piece ∷ pieces) = k ∷ begin_from (k + length piece.words) pieces
