use Rattle.std.proofs.Common.{◌≡◌, take}
use Rattle.std.specs.Prelude.{sum_by}
use Rattle.ob_types.specs.Layout.{kind_of, cells}
use Rattle.ob_types.specs.Meaning.{structured_by}
use Rattle.eval_layouts.proofs.rows.structured_cells.Given as goal

abbrev pub invariant-loop-kind : goal.invariant-loop-kind
invariant-loop-kind l = l.count ≡ sum_by (λ k. structured_by (kind_of l.types k) (cells l.types k)) (take l.kind-index l.kinds)
