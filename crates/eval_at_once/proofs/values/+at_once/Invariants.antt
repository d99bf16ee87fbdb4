use Rattle.std.proofs.Common.{◌≡◌, drop, max, ◌+◌, ◌*◌}
use Rattle.run_laws.specs.Turns.{give}
use Rattle.ob_types.specs.Meaning.{at_most}
use Rattle.ob_types.specs.declared.tree.Expr.{size-Expr}
use Rattle.eval_at_once.specs.Here.{here_of}
use Rattle.eval_at_once.specs.Lists.{linked_by, selected_by}
use Rattle.eval_at_once.proofs.values.+at_once.Given as goal

abbrev pub invariant-linked-loop-l : goal.invariant-linked-loop-l
invariant-linked-loop-l l = linked_by l.laid (at_most l.laid l.active.fuel) (here_of l.active) l.links (give l.fn.first) l.world ≡ linked_by l.laid (at_most l.laid l.active.fuel) (here_of l.active) (drop l.l-index l.links) (give l.c) l.world

abbrev pub invariant-selected-loop-s : goal.invariant-selected-loop-s
invariant-selected-loop-s l = selected_by l.laid (at_most l.laid l.active.fuel) (here_of l.active) l.selectors (give l.fn.first) l.world ≡ selected_by l.laid (at_most l.laid l.active.fuel) (here_of l.active) (drop l.s-index l.selectors) (give l.handed) l.world

abbrev pub decreases-value : goal.decreases-value
decreases-value l = 3 * goal.size-value l + 0

abbrev pub decreases-loaded : goal.decreases-loaded
decreases-loaded l = 3 * goal.size-loaded l + 1

abbrev pub decreases-guarded : goal.decreases-guarded
decreases-guarded l = 3 * goal.size-guarded l + 2

abbrev pub decreases-linked : goal.decreases-linked
decreases-linked l = 3 * goal.size-linked l + 1

abbrev pub decreases-link : goal.decreases-link
decreases-link l = 3 * goal.size-link l + 0

abbrev pub decreases-located : goal.decreases-located
decreases-located l = 3 * goal.size-located l + 0

abbrev pub decreases-selected : goal.decreases-selected
decreases-selected l = 3 * goal.size-selected l + 1

abbrev pub decreases-select : goal.decreases-select
decreases-select l = 3 * goal.size-select l + 0

abbrev pub decreases-comparison : goal.decreases-comparison
decreases-comparison l = 3 * max (goal.size-comparison l) (size-Expr l.y.now) + 1

abbrev pub decreases-membership : goal.decreases-membership
decreases-membership l = 3 * max (goal.size-membership l) (size-Expr l.s.now) + 1
