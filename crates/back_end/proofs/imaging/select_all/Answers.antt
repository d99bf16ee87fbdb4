use Rattle.std.proofs.Common.{sym, ap, ◌∙◌}
use Rattle.back_end.specs.Numbers.{node_numbers}
use Rattle.back_end.proofs.Planning.{first_ready, none_selected, one_selected}
use Rattle.back_end.proofs.imaging.select_all.Goals as goal

pub loop-procedure-init : goal.loop-procedure-init
loop-procedure-init c = none_selected c.in_ok-flows.flows.items _ c.args.procedures c.requires (c.into_iter-procedure-iterator.ensures.into_iter_gives.0 ∙ c.into_vec-procedure-items.ensures) c.in_ok-flows.ensures.items

pub select-requires : goal.select-requires
select-requires c = (first_ready c.loop-procedure.flows.items _ c.args.procedures c.next.new.self.rest.items c.in-Some.procedure c.loop-procedure.invariant c.in-Some.ensures.steps.0).valid

pub loop-procedure-preserved : goal.loop-procedure-preserved
loop-procedure-preserved c =
    one_selected c.loop-procedure.flows.items _ c.args.procedures c.next.new.self.rest.items c.in-Some.procedure c.loop-procedure.invariant c.in-Some.ensures.steps.0 c.push.new.self.items c.in_ok-flow.flow
    c.in_ok-flow.ensures.selected (ap node_numbers (sym c.as_slice.ensures) ∙ c.read_nodes.ensures) c.in_ok-push.ensures.items
