use Rattle.ssa_lowered.proofs.Layouts.{few_bytes, rounded_few, words_few}
use Rattle.ssa_lowered.proofs.laws.cells_take_few_bytes.Goals as goal

pub returns-clause-few : goal.returns-clause-few
returns-clause-few c = λ w t l is k. few_bytes w t l is k

pub returns-clause-whole : goal.returns-clause-whole
returns-clause-whole c = λ w t l is k. rounded_few w t l is k

pub returns-clause-moved : goal.returns-clause-moved
returns-clause-moved c = λ w t l is k. words_few w t l is k
