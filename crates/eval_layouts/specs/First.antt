-- A string as an object.
use Rattle.std.specs.Prelude.{ℕ, List, [], ◌∷◌, ◌++◌, map}
use Rattle.ob_types.specs.Store.{Cell, Bits}

-- its characters, and 0X
abbrev pub string_of : List ℕ → List Cell
string_of xs = map Bits xs ++ Bits 0 ∷ []
