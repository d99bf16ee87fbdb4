use Rattle.std.proofs.Common.{◌≡◌, ◌||◌, ℕ, drop}
use Rattle.ssa_assigned.specs.Assigned.{has}
use Rattle.ssa_tables.specs.lent.Lent.{lent_by_links, lent_by_selectors, lent_by_arguments}
use Rattle.ssa_tables.proofs.lent.expressions.+lending.Given as goal

abbrev pub invariant-lend_links-loop-k : goal.invariant-lend_links-loop-k
invariant-lend_links-loop-k l = (x : ℕ) → has l.found.items x || lent_by_links (drop l.k-index l.links) x ≡ has l.initial.found.items x || lent_by_links l.links x

abbrev pub invariant-lend_selectors-loop-s : goal.invariant-lend_selectors-loop-s
invariant-lend_selectors-loop-s l = (x : ℕ) → has l.found.items x || lent_by_selectors (drop l.s-index l.selectors) x ≡ has l.initial.found.items x || lent_by_selectors l.selectors x

abbrev pub invariant-lend_arguments-loop-a : goal.invariant-lend_arguments-loop-a
invariant-lend_arguments-loop-a l = (x : ℕ) → has l.found.items x || lent_by_arguments (drop l.a-index l.args) x ≡ has l.initial.found.items x || lent_by_arguments l.args x
