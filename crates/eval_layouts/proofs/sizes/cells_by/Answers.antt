use Rattle.std.proofs.Common.{◌≡◌, ◌*◌, Some, ap, ◌∙◌}
use Rattle.ob_types.specs.Layout.{kind_of, cells}
use Rattle.ob_types.specs.declared.types.TypeKind.TheVariants.{Array}
use Rattle.eval_layouts.proofs.Measuring.{array_on}
use Rattle.eval_layouts.proofs.sizes.cells_by.Goals as goal

pub loop-step-preserved : goal.loop-step-preserved
loop-step-preserved c =
    let t = c.args.types.now in
    let a = c.in-Array-Some-default in
    let is : kind_of t c.loop-step.at ≡ Array (Some a.n) a.element = cc in
    ap (λ m. m * cells t a.element) (c.in-Some-product.ensures ∙ ap (λ n. c.loop-step.count * n) c.from.ensures)
    ∙ array_on t c.requires.measured c.loop-step.count (cells t c.args.kind) c.loop-step.at a.n a.element c.loop-step.invariant is
