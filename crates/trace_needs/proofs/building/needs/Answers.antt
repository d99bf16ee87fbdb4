use Rattle.std.proofs.Common.{◌∙◌, ap}
use Rattle.trace_needs.specs.Asked.{need_told, first_from}
use Rattle.trace_needs.specs.Tables.{needed}
use Rattle.trace_needs.proofs.Whole.{begun, rows_rise, next_right}
use Rattle.trace_needs.proofs.building.needs.Goals as goal

pub of-requires : goal.of-requires
of-requires c =
    let is = begun needed c.args.flow.now c.args.live.now _ _ _ _ c.in_ok-pass_needs.ensures c.as_slice-nodes.ensures c.in_ok-table.ensures in
    record { rise = rows_rise c.args.flow.now c.args.live.now c.args.trace.now.nodes c.pass_needs.new.table needed is }

pub returns : goal.returns
unfolding need_told
returns c = record {
  next_need = λ valid v at.
      let is = begun needed c.args.flow.now c.args.live.now _ _ _ _ c.in_ok-pass_needs.ensures c.as_slice-nodes.ensures c.in_ok-table.ensures in
      ap (first_from at) (c.in_ok-rows.ensures v) ∙ next_right c.args.flow.now c.args.live.now c.args.trace.now.nodes c.pass_needs.new.table is v at;
}
