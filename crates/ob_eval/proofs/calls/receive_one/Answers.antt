use Rattle.std.proofs.Common.{Err, sym, subst}
use Rattle.eval_store.specs.declared.stop.Stop.{Stop}
use Rattle.ob_eval.specs.Calling.{ReceivedOne}
use Rattle.ob_eval.proofs.Invoking.{without}
use Rattle.ob_eval.proofs.calls.receive_one.Goals as goal

pub returns-in-Err : goal.returns-in-Err
returns-in-Err c =
    let P : Stop → Type 0 = λ e. ReceivedOne c.args.mode c.args.handed c.args.cells.now.items (Err e) c.args.cells.now.items in
    subst P (sym c.in-Err.ensures.0) c.in-Err.ensures.1

pub returns-in-Ok-None : goal.returns-in-Ok-None
returns-in-Ok-None c = let is = rw c.in-Ok-None.field-0-is at c.in-Ok-None.ensures in without c.args.mode c.args.handed c.args.cells.now.items is
