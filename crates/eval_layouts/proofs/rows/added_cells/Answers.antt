use Rattle.std.proofs.Common.{sym, ap, ◌∙◌, arith}
use Rattle.ob_types.specs.Layout.{cells, cells_of_all}
use Rattle.eval_layouts.proofs.Tabling.{cells_add, whole_taken}
use Rattle.eval_layouts.proofs.rows.added_cells.Goals as goal

pub loop-kind-preserved : goal.loop-kind-preserved
loop-kind-preserved c = λ t known.
    let a = cells_add t c.args.kinds.now c.loop-kind.kind-index 0 c.loop-kind-test.true in
    let b = c.in-Some-checked_add.ensures in
    let n = c.in-Some.ensures (cells t) known in
    let i = c.loop-kind.invariant t known in
    omega (arith, a, b.1, n, i)

pub returns : goal.returns
returns c = λ t known. c.loop-kind.invariant t known ∙ ap (cells_of_all t) (whole_taken c.args.kinds.now c.loop-kind.kind-index c.loop-kind-test.false)
