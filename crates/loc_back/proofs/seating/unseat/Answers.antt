use Rattle.std.proofs.Common.{◌≡◌, ◌∙◌, sym, arith, min, length}
use Rattle.loc_back.proofs.Seats.{unseats_over}
use Rattle.loc_back.proofs.seating.unseat.Goals as goal

pub returns : goal.returns
returns c =
    let over : c.loop-i.i ≡ min (length c.args.uses.now) (length c.args.args.now) = omega arith in
    sym (unseats_over c.args.uses.now c.args.args.now c.loop-i.i c.loop-i.homed over) ∙ c.loop-i.invariant
