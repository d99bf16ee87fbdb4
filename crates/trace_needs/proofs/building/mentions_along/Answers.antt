use Rattle.std.proofs.Common.{◌∙◌, [], ap, None, refl}
use Rattle.trace_needs.specs.Asked.{mention_told, last_below}
use Rattle.trace_needs.specs.Tables.{mentioned}
use Rattle.trace_needs.proofs.Whole.{begun, rows_rise, last_right}
use Rattle.trace_needs.proofs.building.mentions_along.Goals as goal

pub of-requires : goal.of-requires
of-requires c =
    let is = begun mentioned c.args.flow.now [] _ _ _ _ (c.in_ok-pass_mentions.ensures []) refl c.in_ok-table.ensures in
    record { rise = rows_rise c.args.flow.now [] c.args.nodes.now c.pass_mentions.new.table mentioned is }

pub returns : goal.returns
unfolding mention_told
returns c rows v before =
    let is = begun mentioned c.args.flow.now rows _ _ _ _ (c.in_ok-pass_mentions.ensures rows) refl c.in_ok-table.ensures in
    ap (last_below before None) (c.in_ok-rows.ensures v) ∙ last_right c.args.flow.now rows c.args.nodes.now c.pass_mentions.new.table is v before
