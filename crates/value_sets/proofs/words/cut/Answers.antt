use Rattle.std.proofs.Common.{arith}
use Rattle.value_sets.proofs.Bits.{cut_at}
use Rattle.value_sets.proofs.words.cut.Goals as goal

pub returns-then-whole-len-clause-kept : goal.returns-then-whole-len-clause-kept
returns-then-whole-len-clause-kept c = cut_at c.args.words.now.items c.truncate.new.self.items c.args.limit c.index.result.now c.low_bits.result (omega arith) c.truncate.ensures.items c.index.ensures c.low_bits.ensures
