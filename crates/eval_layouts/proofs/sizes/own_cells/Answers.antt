use Rattle.eval_layouts.proofs.Measuring.{record_of_cells}
use Rattle.std.proofs.Common.{sym, ◌∙◌}
use Rattle.eval_layouts.proofs.sizes.own_cells.Goals as goal

pub returns-in-Some-record_cells : goal.returns-in-Some-record_cells
returns-in-Some-record_cells c = c.in-Some-record_cells.ensures ∙ sym (record_of_cells c.args.types.now c.requires.measured c.args.at c.in-Record.r (sym c.kind.ensures ∙ c.in-Record.is))
