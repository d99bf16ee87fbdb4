-- Lists of bytes, read and written in parts.
use Rattle.std.specs.Prelude.{ℕ, ◌+◌, List, ◌++◌, take, drop, length}

-- m with the bytes bs in the place of those from at on
abbrev pub splice : List ℕ → ℕ → List ℕ → List ℕ
splice m at bs = take at m ++ (bs ++ drop (at + length bs) m)

-- n bytes of m from at on
abbrev pub slab : List ℕ → ℕ → ℕ → List ℕ
slab m at n = take n (drop at m)
