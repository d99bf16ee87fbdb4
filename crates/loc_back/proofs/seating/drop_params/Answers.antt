use Rattle.std.proofs.Common.{◌≡◌, ◌∙◌, ap, map, arith, drop, suc, ◌+◌}
use Rattle.loc_back.specs.Steps.{no_param}
use Rattle.loc_back.proofs.Leaving.{left_more, left_all}
use Rattle.loc_back.proofs.seating.drop_params.Goals as goal

pub loop-param-preserved : goal.loop-param-preserved
loop-param-preserved c =
    let l = c.loop-param in
    let params = c.args.params.now in
    let next : l.param-index + 1 ≡ suc l.param-index = omega arith in
    ap (λ k. map (no_param (drop k params)) c.remove.new.self) next
    ∙ left_more params l.param-index 0 l.regs c.remove.new.self (map (no_param params) c.args.regs.now) (omega (arith, c.loop-param-test.true)) c.remove.ensures l.invariant

pub returns-clause-step : goal.returns-clause-step
returns-clause-step c =
    left_all c.args.params.now c.loop-param.param-index c.loop-param.regs (map (no_param c.args.params.now) c.args.regs.now) (omega (arith, c.loop-param-test.false)) c.loop-param.invariant
