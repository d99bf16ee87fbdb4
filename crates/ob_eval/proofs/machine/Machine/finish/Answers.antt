use Rattle.ob_eval.proofs.Pieces.{answered}
use Rattle.ob_eval.proofs.machine.Machine.finish.Goals as goal

pub returns-in-Ok-clause-told : goal.returns-in-Ok-clause-told
returns-in-Ok-clause-told g c = answered c.args.answer _ _ c.requires c.in-Ok.ensures.all
