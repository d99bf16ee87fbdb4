use Rattle.std.proofs.Common.{◌∙◌, sym, ap, subst}
use Rattle.ob_types.specs.Layout.{cells as cells_of}
use Rattle.ob_types.specs.Counted.{IsCounted}
use Rattle.type_rows.proofs.Sampled.{is_counted}
use Rattle.type_rows.proofs.sample.cells.Goals as goal

pub cells-requires-clause-counted : goal.cells-requires-clause-counted
cells-requires-clause-counted c = subst IsCounted (sym c.requires.table) is_counted

pub returns : goal.returns
returns c = c.cells.ensures ∙ ap (λ t. cells_of t c.args.t) c.requires.table
