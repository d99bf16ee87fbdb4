use Rattle.std.proofs.Common.{◌≡◌, ◌∙◌, [], drop, replicate, sym, ap, arith}
use Rattle.std.proofs.lemmas.List.{drop_all}
use Rattle.block_runs.specs.Valid.{made}
use Rattle.ssa_core.specs.Procedures.{code_blocks}
use Rattle.ssa_valid.specs.Tables.{tallied}
use Rattle.ssa_valid.proofs.Tables.{tallied_next, once_is}
use Rattle.ssa_valid.proofs.makers.are_made_once.Goals as goal

pub loop-block-preserved : goal.loop-block-preserved
loop-block-preserved c = tallied_next c.args.blocks.now c.loop-block.block-index c.block-item.result c.loop-block.counts.items c.tally_block.new.counts.items (replicate c.args.values 0) c.loop-block-test.true c.block-item.is c.tally_block.ensures c.loop-block.invariant

pub returns : goal.returns
returns c =
    let d : drop c.loop-block.block-index c.args.blocks.now ≡ [] = drop_all c.loop-block.block-index c.args.blocks.now (omega arith) in
    let all : c.loop-block.counts.items ≡ tallied (made (code_blocks c.args.blocks.now)) (replicate c.args.values 0) = sym (ap (λ bs. tallied (made (code_blocks bs)) c.loop-block.counts.items) d) ∙ c.loop-block.invariant in
    once_is (made (code_blocks c.args.blocks.now)) c.args.values c.as_slice.result.now c.are_ones.result (c.as_slice.ensures.value ∙ all) c.are_ones.ensures
