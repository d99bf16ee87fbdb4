use Rattle.std.proofs.Common.{ℕ, Option, None, arith}
use Rattle.std.proofs.lemmas.List.{length-map}
use denote.Param.Send.{sendable}
use Rattle.std.proofs.Crossing.{crosses}
use Rattle.check_procedures.proofs.Finished.{numbers_all}
use Rattle.check_bodies.specs.declared.body.Body.{Body}
use Rattle.check_bodies.proofs.Handing.{numbered_send, numbered_sync}
use Rattle.check_bodies.proofs.Sharing.{bodies_sync}
use Rattle.check_bodies.proofs.Tasks.{is_tree, all_judged}
use Rattle.check_bodies.proofs.settling.judged_bodies.Goals as goal

pub final_results-requires-sync-W : goal.final_results-requires-sync-W
final_results-requires-sync-W g c κs within = search (bodies_sync, sendable, crosses) depth 30 fits 100000

pub final_results-requires-send-W-Done : goal.final_results-requires-send-W-Done
final_results-requires-send-W-Done g c κs within = search (numbered_send, sendable, crosses) depth 30 fits 100000

pub final_results-requires-sync-W-Done : goal.final_results-requires-sync-W-Done
final_results-requires-sync-W-Done g c κs within = search (numbered_sync, sendable, crosses) depth 30 fits 100000

pub final_results-requires-clause-tree : goal.final_results-requires-clause-tree
final_results-requires-clause-tree g c κs within = is_tree c.args.bodies.now

pub final_results-requires-clause-small : goal.final_results-requires-clause-small
final_results-requires-clause-small g c κs within =
    let few = c.requires.few in
    let long = length-map {B = Option ℕ} c.args.bodies.now (λ (b : Body). None) in
    omega (arith, few, long)

pub returns : goal.returns
returns g c = all_judged c.args.round.now c.args.state.now c.args.bodies.now c.final_results.result c.final_results.ensures

pub invariant_of-work : goal.invariant_of-work
invariant_of-work g c = record { numbers = ∣ numbers_all c.args.state.now.types c.requires.settled.built ∣₁; few = c.requires.few }
