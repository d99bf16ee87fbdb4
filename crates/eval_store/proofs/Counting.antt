-- Sums of the cells of objects.
use Rattle.std.proofs.Common.{◌≡◌, ℕ, suc, ◌+◌, List, [], ◌∷◌, length, arith}
use Rattle.std.proofs.lemmas.List.Sums.{sum_by-cons}
use Rattle.ob_types.specs.Store.{Cell}
use Rattle.ob_types.specs.Statements.{heap_cells}
use Rattle.ob_types.specs.Meaning.{cells_in}

-- NEW counts one more for each object
pub heap_sum : (objects : List (List Cell)) → heap_cells objects ≡ cells_in objects + length objects
heap_sum [] = omega arith
heap_sum (cs ∷ objects) =
    let a = sum_by-cons (λ (x : List Cell). suc (length x)) cs objects in
    let b = sum_by-cons (λ (x : List Cell). length x) cs objects in
    let i = heap_sum objects in
    omega (arith, a, b, i)
