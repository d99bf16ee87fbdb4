use Rattle.std.proofs.Common.{List, ℕ, ◌∙◌, ap}
use Rattle.flow_drawing.specs.Layout.{counted}
use Rattle.flow_drawing.proofs.Widths.{next_column, counted_set}
use Rattle.flow_drawing.proofs.places.put_in.Goals as goal

pub returns-clause-places : goal.returns-clause-places
returns-clause-places c =
    next_column c.args.all.now.places.items c.args.block c.args.layer c.width_at-column.result c.args.all.now.widths.items c.as_slice.result.now c.as_slice.ensures.value c.requires.counted c.width_at-column.ensures

pub returns-clause-counted : goal.returns-clause-counted
returns-clause-counted c =
    c.in_ok-count.ensures ∙ ap (λ (ws : List ℕ). counted ws c.args.layer) c.requires.counted
    ∙ counted_set c.args.all.now.places.items c.args.block (record { layer = c.args.layer; column = c.width_at-column.result }) c.requires.block c.requires.free c.requires.low
