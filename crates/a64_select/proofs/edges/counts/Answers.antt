use Rattle.std.proofs.Common.{◌≡◌, ◌∙◌, ap, subst, arith, length, get_or}
use Rattle.std.proofs.lemmas.List.{with_items_is}
use Rattle.ssa_core.specs.Procedures.{code_blocks}
use Rattle.a64_select.specs.Making.{targets_in, counted}
use Rattle.a64_select.proofs.Preds.{AreCounts, counts_most, counts_next, counts_done, length-counted, length-code_blocks}
use Rattle.a64_select.proofs.edges.counts.Goals as goal

pub count_reached-requires-clause-few : goal.count_reached-requires-clause-few
count_reached-requires-clause-few c = λ k.
    let most = counts_most (code_blocks c.args.blocks.now) c.loop-block.block-index c.loop-block.counts.items c.loop-block.invariant k in
    let same : get_or c.deref_mut.result.now k 0 ≡ get_or c.loop-block.counts.items k 0 = ap (λ xs. get_or xs k 0) c.deref_mut.ensures.value in
    omega (arith, most, same, c.loop-block-test.true, c.requires.few)

pub loop-block-preserved : goal.loop-block-preserved
loop-block-preserved c =
    let ts = targets_in c.targets.result.first c.targets.result.second in
    let size : length c.count_reached.new.counts ≡ c.loop-block.counts.len =
    ap length c.count_reached.ensures ∙ (length-counted ts c.deref_mut.result.now ∙ c.deref_mut.ensures.len) in
    counts_next c.args.blocks.now c.loop-block.block-index c.block-item.result c.loop-block.counts.items ts _
    c.requires.targets c.loop-block-test.true c.block-item.is c.targets.ensures c.loop-block.invariant
    (with_items_is c.loop-block.counts c.count_reached.new.counts size ∙ (c.count_reached.ensures ∙ ap (counted ts) c.deref_mut.ensures.value))

pub returns : goal.returns
returns c =
    let n = length-code_blocks c.args.blocks.now in
    let e : c.loop-block.block-index ≡ length (code_blocks c.args.blocks.now) = omega (arith, n, c.loop-block-test.false, c.loop-block.auto.block-index-end) in
    counts_done (code_blocks c.args.blocks.now) c.loop-block.counts.items (subst (λ j. AreCounts (code_blocks c.args.blocks.now) j c.loop-block.counts.items) e c.loop-block.invariant)
