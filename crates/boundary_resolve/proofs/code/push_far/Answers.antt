use Rattle.std.proofs.Common.{◌∙◌}
use Rattle.boundary_resolve.proofs.Laid.{edge_pushed}
use Rattle.boundary_resolve.proofs.Sought.{before_is, has_few, rises_before}
use Rattle.boundary_resolve.proofs.code.push_far.Goals as goal

pub returns : goal.returns
returns c few_from few_to rising =
    let b = c.in_ok-before.before in
    let is = c.in_ok-before.ensures in
    let few = has_few c.args.from.now c.args.params.now c.args.args.now b is few_from in
    let rises = rises_before c.args.from.now c.args.params.now c.args.args.now b is in
    edge_pushed c.args.from.now c.args.to.now c.args.params.now c.args.args.now c.in_ok-moves.moves.items c.as_slice.result.now c.in_ok-steps.steps.items c.as_slice-2.result.now c.args.placed.now.items c.push_steps.new.placed.items rising (c.in_ok-moves.ensures few rises few_to ∙ before_is c.args.from.now c.args.to.now c.args.params.now c.args.args.now b is) c.as_slice.ensures.value c.in_ok-steps.ensures.steps c.as_slice-2.ensures.value c.in_ok-push_steps.ensures
