use Rattle.std.proofs.Common.{◌+◌, map, drop, ◌∙◌}
use Rattle.link_layout.proofs.Placing.{err_so}
use Rattle.placed_code.specs.Layout.{cell_width}
use Rattle.link_blocks.specs.Plans.{cell_in, placed_in}
use Rattle.procedure_code.proofs.Rows.{one_over, drop_map, mapped_more}
use Rattle.line_words.proofs.widths.push_cells.Goals as goal

pub returns-in_err-width-clause-limit : goal.returns-in_err-width-clause-limit
returns-in_err-width-clause-limit c =
    let cells = c.args.cells.now in
    let i = c.loop-cell.cell-index in
    let cell = c.cell-item.result in
    err_so _ c.from_residual.result c.from_residual.ensures.0
    (λ e limit. one_over (cell_width (placed_in c.args.plan.now)) (map cell_in cells) i (cell_in cell) (map cell_in (drop (i + 1) cells))
    (drop_map cell_in cells i ∙ mapped_more cell_in cells i cell c.loop-cell-test.true c.cell-item.is) c.in_err-width.ensures.limit)
