use Rattle.std.proofs.Common.{◌≡◌, ◌≤◌, length, drop}
use Rattle.ob_judge.specs.Shapes.{same_formals}
use Rattle.judged_tree.specs.TypeShapes.{shapes_of, formals_shape}
use Rattle.check_types.proofs.table.TypeTable.same_formals.Given as goal

abbrev pub invariant-loop-i : goal.invariant-loop-i
invariant-loop-i l =
    (same_formals (formals_shape (shapes_of l.self.types) l.a) (formals_shape (shapes_of l.self.types) l.b)
    ≡ same_formals (formals_shape (shapes_of l.self.types) (drop l.i l.a)) (formals_shape (shapes_of l.self.types) (drop l.i l.b)))
    × (l.i ≤ length l.b)
