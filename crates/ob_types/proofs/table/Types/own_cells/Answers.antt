use Rattle.std.proofs.Common.{sym, ◌∙◌}
use Rattle.ob_types.proofs.Counting.{cells-record}
use Rattle.ob_types.proofs.table.Types.own_cells.Goals as goal

pub returns-in-Record : goal.returns-in-Record
returns-in-Record c =
    let is = sym c.in-Record.ensures in
    c.from.ensures
    ∙ c.counted_cells.ensures
    ∙ c.requires.counted.records c.in-Record.r (c.requires.counted.record_there c.args.t c.in-Record.r is)
    ∙ sym (cells-record c.args.self.now c.requires.counted.fine c.args.t c.in-Record.r c.requires.known is)
