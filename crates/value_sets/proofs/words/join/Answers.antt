use Rattle.std.proofs.Common.{arith}
use Rattle.value_sets.proofs.Bits.{joined_at}
use Rattle.value_sets.proofs.words.join.Goals as goal

pub returns-clause-joined : goal.returns-clause-joined
returns-clause-joined c = joined_at c.args.words.now.items c.grow.new.words.items c.args.at c.index_mut.result.now c.args.word c.in_ok-grow.ensures.same (let room = c.in_ok-grow.ensures.room in omega (arith, room)) c.index_mut.ensures.value
