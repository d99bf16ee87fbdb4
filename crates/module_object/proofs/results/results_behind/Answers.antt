use Rattle.std.proofs.Common.{◌≡◌, ◌<◌}
use Rattle.trace_build.specs.Traces.{traces_in}
use Rattle.planned_image.specs.trace_work.declared.fault.WorkFault.TheVariants.{Traces}
use Rattle.module_object.proofs.Behind.{few_of_both, many_before, many_of_both, on_err}
use Rattle.module_object.proofs.results.results_behind.Goals as goal

pub returns-in_err-count-clause-limit : goal.returns-in_err-count-clause-limit
returns-in_err-count-clause-limit g c =
    on_err c.from_residual.result c.in_err-count.field-0.0 (λ fault. fault ≡ Traces → 262144 < traces_in c.args.choice.now.builder c.args.flows.now) c.from_residual.ensures.1
    (λ e. many_before c.args.choice.now c.args.first c.args.flows.now _ _ c.split_at.ensures.front c.split_at.ensures.back (c.in_err-count.ensures.limit e))

pub returns-in_err-outs-clause-limit : goal.returns-in_err-outs-clause-limit
returns-in_err-outs-clause-limit g c =
    on_err c.from_residual-in_err-outs.result c.in_err-outs.field-0.0 (λ fault. fault ≡ Traces → 262144 < traces_in c.args.choice.now.builder c.args.flows.now) c.from_residual-in_err-outs.ensures.1
    (λ e. many_of_both c.args.choice.now c.args.first c.args.flows.now _ _ c.split_at.ensures.front c.split_at.ensures.back c.in_ok-count.count c.in_ok-count.ensures.count (c.in_err-outs.ensures.limit e))

pub returns-clause-few : goal.returns-clause-few
returns-clause-few g c =
    few_of_both c.args.choice.now c.args.first c.args.flows.now _ _ c.split_at.ensures.front c.split_at.ensures.back c.in_ok-count.count c.in_ok-outs.field-0.traces c.in_ok-count.ensures.count c.in_ok-outs.ensures.count c.in_ok-outs.ensures.few
