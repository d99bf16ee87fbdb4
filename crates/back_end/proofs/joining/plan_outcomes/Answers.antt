use Rattle.std.proofs.Common.{◌∙◌, refl, sym, subst, arith, rules}
use Rattle.back_end.specs.Tasks.{AreOutcomes}
use Rattle.trace_pool.proofs.Finish.{nil_of}
use Rattle.procedure_code.proofs.Rows.{errs_with}
use Rattle.back_end.proofs.Planning.{begun, ended, further, over_limit}
use Rattle.back_end.proofs.joining.plan_outcomes.Goals as goal

pub loop-outcome-init : goal.loop-outcome-init
loop-outcome-init g c = record {
  few = omega arith;
  way = λ flows are. begun c.args.choice.now flows _ _ (subst (AreOutcomes c.args.choice.now flows) (sym c.into_iter-outcome-iterator.ensures.into_iter_gives.0) are) c.in_ok-with_capacity.ensures.items refl refl refl;
}

pub loop-outcome-preserved : goal.loop-outcome-preserved
loop-outcome-preserved g c = record {
  few = c.in_ok-plan_next.ensures.few;
  way = λ flows are. further c.args.choice.now flows _ c.next.new.self.rest.items c.in-Some.outcome c.loop-outcome.planned (c.loop-outcome.invariant.way flows are) c.in-Some.ensures.steps.0 c.plan_next.new.planned (λ flow is. c.in_ok-plan_next.ensures.more flow is);
}

pub returns-in_err-plan_next-clause-traces : goal.returns-in_err-plan_next-clause-traces
returns-in_err-plan_next-clause-traces g c flows are =
    errs_with _ _ c.from_residual-in_err-plan_next.result c.from_residual-in_err-plan_next.ensures.1
    (λ fault same e. over_limit c.args.choice.now flows _ c.next.new.self.rest.items c.in-Some.outcome c.loop-outcome.planned (c.loop-outcome.invariant.way flows are) c.in-Some.ensures.steps.0 (λ flow is. c.in_err-plan_next.ensures.traces flow is (sym same ∙ e)))

pub returns-clause-planned : goal.returns-clause-planned
returns-clause-planned g c flows are = ended c.args.choice.now flows _ c.loop-outcome.planned (c.loop-outcome.invariant.way flows are) (nil_of c.loop-outcome.outcome-iterator.rest.items c.loop-outcome.outcome-iterator.rest.len (search rules) c.in-None.ensures.steps.0)
