use Rattle.value_sets.proofs.Bits.{masked}
use Rattle.value_sets.proofs.words.low_bits.Goals as goal

pub returns : goal.returns
returns c = masked c.args.word c.args.bits c.requires
