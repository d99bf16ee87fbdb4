use Rattle.std.proofs.Common.{List, drop}
use Rattle.std.specs.Vec.Iter.{into_iter_items}
use Rattle.ob_judge.specs.Calls as J
use Rattle.judged_tree.specs.TypeShapes.{shapes_of, formals_shape}
use Rattle.check_types.specs.names.Worlds.{table_of, world_of}
use Rattle.check_operands.specs.calls.Given.{AreGiven}
use Rattle.check_operands.proofs.calls.Binding.{Binding}
use Rattle.check_operands.proofs.calls.calls.all_bound.Given as goal

abbrev pub invariant-loop-formal : goal.invariant-loop-formal
invariant-loop-formal l = (xs : List J.Given) → AreGiven l.scope l.fn.given.items xs →
    Binding l.scope (world_of l.scope) (formals_shape (shapes_of (table_of l.scope)) (drop l.formal-index l.formals)) (into_iter_items l.rest) l.arguments.items
    (J.all_bound (world_of l.scope) (formals_shape (shapes_of (table_of l.scope)) l.formals) xs)
