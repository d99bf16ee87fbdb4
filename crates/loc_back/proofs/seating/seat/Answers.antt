use Rattle.std.proofs.Common.{◌≡◌, ◌∙◌, sym, ap, arith, min, length}
use Rattle.loc_back.proofs.Seats.{length-seated, seats_over}
use Rattle.loc_back.proofs.seating.seat.Goals as goal

pub returns : goal.returns
returns c =
    let over : c.loop-i.i ≡ min (length c.args.uses.now) (length c.args.args.now) = omega arith in
    let step = sym (seats_over c.args.uses.now c.args.args.now c.loop-i.i c.loop-i.regs over) ∙ c.loop-i.invariant in
    record { step = step; row = ap length step ∙ length-seated c.args.uses.now c.args.args.now c.args.regs.now }
