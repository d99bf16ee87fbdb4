use Rattle.std.proofs.Common.{sym, ◌∙◌, arith, Some}
use Rattle.ob_types.proofs.DataTrees.{wide-array}
use Rattle.ob_types.proofs.table.Types.align.Goals as goal

pub loop-element-preserved : goal.loop-element-preserved
loop-element-preserved c =
    let is = c.in-Some.ensures.array in
    let before = c.requires.counted.element c.loop-element.at (Some c.in-Some.field-0-0) c.in-Some.element is in
    let there = c.loop-element.invariant.0 in
    (omega (arith, before, there), sym (wide-array c.args.self.now c.requires.counted.fine c.loop-element.at c.in-Some.field-0-0 c.in-Some.element is) ∙ c.loop-element.invariant.1)
