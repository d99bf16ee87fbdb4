use Rattle.std.proofs.Common.{arith, ap, ◌∙◌}
use Rattle.module_check.specs.Marks.{marked}
use Rattle.module_check.proofs.Fitting.{column_fits, marked_fits}
use Rattle.module_check.proofs.checking.fault_line.Goals as goal

pub overflow_add-mark : goal.overflow_add-mark
overflow_add-mark c =
    let column = column_fits c.args.text.now c.args.at in
    let rest = marked_fits c.args.text.now c.args.at in
    let column_is = c.position_of-place.ensures.column in
    let marked_is = c.marked.ensures ∙ ap marked c.rest_of.ensures.rest in
    let short = c.rest_of.ensures.short in
    omega (arith, column, rest, column_is, marked_is, short)
