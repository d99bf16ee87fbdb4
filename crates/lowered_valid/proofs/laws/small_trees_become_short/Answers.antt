use Rattle.lowered_valid.proofs.Sizes.{size_few, short_all}
use Rattle.lowered_valid.proofs.laws.small_trees_become_short.Goals as goal

pub returns-clause-size : goal.returns-clause-size
returns-clause-size c = size_few

pub returns-clause-short : goal.returns-clause-short
returns-clause-short c = short_all
