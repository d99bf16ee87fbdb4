use Rattle.ob_grammar.proofs.Vocabulary.{same_terminal}
use Rattle.ob_grammar.proofs.laws.numbers_tell_terminals_apart.Goals as goal

pub returns : goal.returns
returns c = same_terminal
