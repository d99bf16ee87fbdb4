use Rattle.std.proofs.Common.{◌≡◌, List, ◌∙◌, subst}
use Rattle.std.proofs.lemmas.List.{length-map}
use Rattle.trace_build.specs.Traces.{traces_in}
use Rattle.trace_pool.specs.Ends.{AreFinal}
use Rattle.trace_work.specs.declared.planning.TracePlan.{TracePlan}
use Rattle.trace_work.specs.declared.work.Entry.{Entry}
use Rattle.trace_work.specs.Entries.{parents_in}
use Rattle.trace_work.specs.Finals.{IsFinalOf}
use Rattle.flow_allocation.specs.Allocations.{items_of}
use Rattle.flow_allocation.specs.Sharing.{AreShared}
use Rattle.flow_allocation.proofs.Further.{allocated}
use Rattle.flow_allocation.proofs.allocating.allocate_flows.Goals as goal

pub returns-clause-allocated : goal.returns-clause-allocated
returns-clause-allocated g c valid =
    let choice = c.args.choice.now in
    let w = c.in_ok-work.work in
    let is = c.in_ok-work.ensures in
    let outs = c.in_ok-outs.outs.items in
    let parts = items_of c.in_ok-shared.shared.parts in
    let shared = items_of c.in_ok-shared.shared.outs in
    let final = subst (λ x. AreFinal (IsFinalOf x w.plans.items w.entries.items) (parents_in w.entries.items) outs) is.choice c.in_ok-outs.ensures in
    let count : c.count.result ≡ traces_in choice.builder c.args.flows.now = c.count.ensures ∙ length-map w.entries.items (λ (y : Entry). y.parent) ∙ is.count in
    allocated choice c.requires.fit c.args.before w.plans.items w.entries.items outs shared parts c.args.flows.now c.count.result w.entered (is.plans valid) is.numbered is.behind is.flows final
    (subst (λ (ps : List TracePlan). AreShared ps outs parts shared) c.as_slice.ensures.value c.in_ok-shared.ensures) count
