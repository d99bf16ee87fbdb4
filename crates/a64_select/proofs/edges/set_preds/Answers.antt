use Rattle.std.proofs.Common.{◌<◌, ◌∙◌, ap, arith, length}
use Rattle.std.proofs.lemmas.List.{get_or_default}
use Rattle.lir_core.specs.Flows.{no_node}
use Rattle.a64_select.specs.Making.{targets_in, different_targets}
use Rattle.a64_select.proofs.Preceded.{targets_below, preceded_next, preceded_done}
use Rattle.a64_select.proofs.edges.set_preds.Goals as goal

pub add_preds-requires : goal.add_preds-requires
add_preds-requires c = record {
  targets =
      let size = c.loop-i.invariant.size in
      let l : c.loop-i.i < length c.args.nodes.now = c.loop-i-test.true in
      let m : c.loop-i.i < length c.loop-i.nodes = omega (arith, size, l) in
      let e = get_or_default c.loop-i.nodes c.loop-i.i c.index-nodes-i.result no_node m in
      targets_below c.args.nodes.now c.loop-i.nodes c.loop-i.i (targets_in c.targets-reached.result.first c.targets-reached.result.second) c.requires.targets l
      (c.targets-reached.ensures ∙ ap (λ n. different_targets n.end) e) c.loop-i.invariant;
}

pub loop-i-preserved : goal.loop-i-preserved
loop-i-preserved c =
    let size = c.loop-i.invariant.size in
    let l : c.loop-i.i < length c.args.nodes.now = c.loop-i-test.true in
    let m : c.loop-i.i < length c.loop-i.nodes = omega (arith, size, l) in
    let e = get_or_default c.loop-i.nodes c.loop-i.i c.index-nodes-i.result no_node m in
    preceded_next c.args.nodes.now c.loop-i.nodes c.add_preds.new.nodes c.loop-i.i (targets_in c.targets-reached.result.first c.targets-reached.result.second) c.requires.targets l
    (c.targets-reached.ensures ∙ ap (λ n. different_targets n.end) e) c.loop-i.invariant c.in_ok-add_preds.ensures

pub returns : goal.returns
returns c = preceded_done c.args.nodes.now c.loop-i.nodes c.loop-i.i (let size = c.loop-i.invariant.size in omega (arith, size, c.loop-i-test.false, c.loop-i.auto.i-end)) c.loop-i.invariant
