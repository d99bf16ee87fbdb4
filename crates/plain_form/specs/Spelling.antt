-- Numbers and lists as bytes: a number has four, the lowest first, and a list is its count and then its items.
use Rattle.std.specs.Prelude.{ℕ, ◌<◌, ◌≤◌, ◌^◌, List, ◌++◌, length}
use Rattle.std.specs.List.{flat_map, All}
use Rattle.std.specs.Int.{w32, to_le_bytes}

unfoldable pub number : ℕ → List ℕ
number n = to_le_bytes w32 n

abbrev pub list : {X : Type 0} → (X → List ℕ) → List X → List ℕ
list one xs = number (length xs) ++ flat_map one xs

---- What is read again

abbrev pub IsNumber : ℕ → Type 0
IsNumber n = n < 2 ^ 32

abbrev pub IsRegister : ℕ → Type 0
IsRegister r = r ≤ 15

abbrev pub Any : ℕ → Type 0
Any n = Unit {0}

-- what is asked of a list's count, and of its items
abbrev pub KeepsList : {X : Type 0} → (ℕ → Type 0) → (X → Type 0) → List X → Type 0
KeepsList Count Keeps xs = Count (length xs) × All Keeps xs
