use Rattle.std.proofs.Common.{sym, ap, ◌∙◌, ◌+◌, List, map}
use Rattle.std.proofs.lemmas.List.{take_rest}
use Rattle.lir_core.specs.declared.places.Move.{Move}
use Rattle.lir_core.specs.Spots.{spot}
use Rattle.parallel_move.specs.Order.{is_source, pending}
use Rattle.parallel_move.specs.Entries.{move_at}
use Rattle.parallel_move.proofs.First.{leading_step}
use Rattle.parallel_move.proofs.front.leading.Goals as goal

pub loop-i-preserved : goal.loop-i-preserved
loop-i-preserved c =
    let ms = c.args.moves.now in
    let i = c.loop-i.i in
    leading_step ms i c.loop-i-test.true c.loop-i.invariant
    (ap (λ (x : List Move). is_source (map pending x) (spot (move_at ms i).to)) (sym (take_rest ms (i + 1))) ∙ sym c.if-is_read.ensures)
