-- Numbers of variables, by the branches that assign them.
use Rattle.std.specs.Prelude.{ℕ, List, [], ◌∷◌, slice_set}

-- a number at each place of a list, in a list of numbers
abbrev pub put_all : ℕ → List ℕ → List ℕ → List ℕ
put_all n [] ns = ns
put_all n (x ∷ xs) ns = put_all n xs (slice_set ns x n)
