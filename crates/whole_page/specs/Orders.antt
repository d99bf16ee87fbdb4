-- What the order is in which procedures are summed up.
use Rattle.std.specs.Prelude.{◌≤◌, List, [], ◌∷◌}
use Rattle.page_parts.specs.declared.order.Rank.{Rank}

-- each weighs no more than the one before it
abbrev pub Falls : List Rank → Type 0
Falls [] = Unit {0}
Falls (x ∷ []) = Unit {0}
Falls (x ∷ (y ∷ ys)) = (y.weight ≤ x.weight) × Falls (y ∷ ys)
