use Rattle.std.proofs.lemmas.Result.{on_ok_weaker}
use Rattle.value_sets.proofs.Bits.{joined_below}
use Rattle.value_sets.proofs.words.join_below.Goals as goal

pub returns-clause-joined : goal.returns-clause-joined
returns-clause-joined c =
    on_ok_weaker c.join.result
    (joined_below c.args.row.now c.args.words.now.items c.join_first.new.words.items c.join.new.words.items c.args.limit c.word_at.result c.low_bits.result c.in_ok-join_first.ensures.joined c.word_at.ensures c.low_bits.ensures)
    c.join.ensures.joined
