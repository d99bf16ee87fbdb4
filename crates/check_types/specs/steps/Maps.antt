-- Ordered maps from names as functions.
use Rattle.std.specs.Prelude.{ℕ, List, Option, Vec}
use Rattle.std.specs.BTreeMap.{BTreeMap, get_by}
use Rattle.std.specs.Cmp.Lexicographic.{slice_cmp}
use Rattle.std.specs.Ordering.{nat_cmp}
use Rattle.std.specs.Global.{Global}

-- what a map has at these bytes
abbrev pub at_bytes : {X : Type 0} → BTreeMap (Vec ℕ Global) X → List ℕ → Option X
at_bytes m q = get_by (λ k. slice_cmp nat_cmp q k.items) m
