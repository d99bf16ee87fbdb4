use Rattle.std.proofs.Common.{arith}
use Rattle.value_sets.proofs.Bits.{word_pushed, all_pushed}
use Rattle.value_sets.proofs.words.push_all.Goals as goal

pub loop-at-preserved : goal.loop-at-preserved
loop-at-preserved c = word_pushed c.args.words.now c.loop-at.list.items c.push_word.new.list.items c.args.list.now.items c.loop-at.at c.loop-at.invariant c.in_ok-push_word.ensures

pub returns : goal.returns
returns c = all_pushed c.args.words.now c.loop-at.list.items c.args.list.now.items c.loop-at.at (omega arith) c.loop-at.invariant
