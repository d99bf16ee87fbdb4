use Rattle.std.proofs.Common.{arith}
use Rattle.ob_eval.proofs.Stepping.{all_done, step_sensible, step_goes, step_stops, step_lighter}
use Rattle.ob_eval.proofs.machine.Machine.until_spent.Goals as goal

pub returns-in-None-clause-ran : goal.returns-in-None-clause-ran
returns-in-None-clause-ran c = all_done c.args.laid.now c.args.self.now c.steps.self c.steps.invariant.0 c.in-None.ensures.0

pub step-requires : goal.step-requires
step-requires c = record { sensible = step_sensible c.args.laid.now c.args.self.now c.steps.self c.steps.invariant.0 c.in-Some.task c.pop.new.self c.in-Some.ensures c.requires.sensible }

pub returns-in-Err-clause-ran : goal.returns-in-Err-clause-ran
returns-in-Err-clause-ran c = step_stops c.args.laid.now c.args.self.now c.steps.self c.steps.invariant.0 c.in-Some.task c.pop.new.self c.in-Some.ensures c.in-Err.stop c.step.new.self.world.out c.in-Err.ensures.went

pub returns-then-turns-clause-ran : goal.returns-then-turns-clause-ran
returns-then-turns-clause-ran c = step_goes c.args.laid.now c.args.self.now c.steps.self c.steps.invariant.0 c.in-Some.task c.pop.new.self c.in-Some.ensures c.step.new.self c.in-Ok.ensures.went

pub steps-preserved : goal.steps-preserved
steps-preserved c =
    let f = c.in-Ok.ensures.falls.0 in
    let e = c.steps.invariant.1 in (
      step_goes c.args.laid.now c.args.self.now c.steps.self c.steps.invariant.0 c.in-Some.task c.pop.new.self c.in-Some.ensures c.step.new.self c.in-Ok.ensures.went,
      omega (arith, f, e),
    )

pub steps-smaller : goal.steps-smaller
steps-smaller c =
    let e = c.steps.invariant.1 in
    step_lighter c.args.laid.now c.args.self.now c.steps.self c.steps.invariant.0 c.in-Some.task c.pop.new.self c.in-Some.ensures c.step.new.self c.in-Ok.ensures.falls (omega (arith, e))
