use Rattle.link_words.proofs.Pushed.{four_pushed}
use Rattle.link_words.proofs.pushing.push_moves.Goals as goal

pub returns : goal.returns
returns c = four_pushed _ _ _ _ _ _ _ _ _ _ c.args.number _ c.constant_moves.ensures c.in_ok-push_move.ensures c.in_ok-push_move-2.ensures c.in_ok-push_move-3.ensures c.in_ok-push_move-4.ensures
