use Rattle.lowered_valid.proofs.Valid.{words_few_all, bare_all}
use Rattle.lowered_valid.proofs.laws.argument_words_are_few.Goals as goal

pub returns-clause-few : goal.returns-clause-few
returns-clause-few c = words_few_all

pub returns-clause-bodies : goal.returns-clause-bodies
returns-clause-bodies c = bare_all
