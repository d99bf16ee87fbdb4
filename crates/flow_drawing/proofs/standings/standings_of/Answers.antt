use Rattle.std.proofs.Common.{◌≡◌, ◌∙◌, ap, drop, arith}
use Rattle.flow_drawing.specs.Standings.{standing_from}
use Rattle.flow_drawing.proofs.Standing.{all_stand}
use Rattle.flow_drawing.proofs.standings.standings_of.Goals as goal

pub returns : goal.returns
returns c =
    let first : c.loop-number.number ≡ 0 = omega (arith, c.loop-number-test.false) in
    all_stand c.args.traces.now c.args.count c.loop-number.standings.items c.loop-number.invariant.same
    (λ b l. c.loop-number.invariant.each b l ∙ ap (λ k. standing_from k (drop k c.args.traces.now) b) first)
