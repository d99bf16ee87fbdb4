use Rattle.std.proofs.Common.{◌≡◌, ℕ, List, drop, Some}
use Rattle.ob_types.specs.Table.{Table}
use Rattle.check_expressions.specs.folding.Links.{value_behind_each}
use Rattle.check_expressions.proofs.folding.folding.+fold.Given as goal

abbrev pub invariant-fold_links-loop-link : goal.invariant-fold_links-loop-link
invariant-fold_links-loop-link l = (t : Table) (texts : List (List ℕ)) → value_behind_each t texts l.links (Some l.fn.first) ≡ value_behind_each t texts (drop l.link-index l.links) (Some l.x)
