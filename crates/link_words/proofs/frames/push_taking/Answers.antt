use Rattle.placed_code.specs.Words.{count_words}
use Rattle.link_words.specs.Frames.{taken}
use Rattle.link_words.proofs.Pushed.{then}
use Rattle.link_words.proofs.frames.push_taking.Goals as goal

pub returns : goal.returns
returns c = then (count_words c.args.cells) taken _ _ _ c.in_ok-push_count.ensures c.in_ok-push_taken.ensures
