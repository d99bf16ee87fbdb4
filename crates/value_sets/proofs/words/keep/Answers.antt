use Rattle.std.proofs.Common.{◌∙◌, arith}
use Rattle.std.proofs.lemmas.List.{length-set}
use Rattle.value_sets.proofs.Bits.{kept_more}
use Rattle.value_sets.proofs.words.keep.Goals as goal

pub loop-at-preserved : goal.loop-at-preserved
loop-at-preserved c = (
  kept_more c.args.others.now c.args.words.now.items c.loop-at.words.items c.loop-at.at c.index_mut.result.now c.word_at.result c.loop-at.invariant.0 (omega arith) c.index_mut.ensures.value c.word_at.ensures,
  length-set c.loop-at.words.items c.loop-at.at _ ∙ c.loop-at.invariant.1,
)
