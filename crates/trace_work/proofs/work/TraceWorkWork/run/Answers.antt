use Rattle.std.proofs.Common.{◌<◌, length, sym, subst, arith}
use Rattle.trace_work.specs.Finals.{HasRow, plain_hint}
use Rattle.trace_work.specs.Plans.{IsHint}
use Rattle.trace_work.proofs.Entered.{entry_is, entry_of_plan, flow_known, number_small, plan_is, run_within}
use Rattle.trace_work.proofs.Ready.{finally, runs_with}
use Rattle.trace_work.proofs.work.TraceWorkWork.run.Goals as goal

pub index-entry-requires : goal.index-entry-requires
index-entry-requires c = omega (arith, run_within c.args.self.now.entries.items _ c.args.trace c.args.hint c.requires, c.args.self.now.entries.ok)

pub index-plan-requires : goal.index-plan-requires
index-plan-requires c =
    let w = c.args.self.now in
    let lt : c.args.trace < length w.entries.items = run_within w.entries.items _ c.args.trace c.args.hint c.requires in
    omega (arith, flow_known w.plans.items w.entries.items w.entered c.args.trace c.index-entry.result.now c.index-entry.ensures lt, w.plans.ok)

pub result-requires-clause-small : goal.result-requires-clause-small
result-requires-clause-small c =
    let w = c.args.self.now in
    number_small w.plans.items w.entries.items w.entered c.args.trace c.index-entry.result.now c.index-entry.ensures (run_within w.entries.items _ c.args.trace c.args.hint c.requires) c.index-plan.result.now c.index-plan.ensures w.before w.behind w.small

pub result-requires-clause-within : goal.result-requires-clause-within
result-requires-clause-within c =
    let w = c.args.self.now in
    (entry_of_plan w.plans.items w.entries.items w.entered c.args.trace c.index-entry.result.now c.index-entry.ensures (run_within w.entries.items _ c.args.trace c.args.hint c.requires) c.index-plan.result.now c.index-plan.ensures).within

pub result-requires-clause-row : goal.result-requires-clause-row
result-requires-clause-row c =
    let w = c.args.self.now in
    let e = c.index-entry.result.now in
    let lt : c.args.trace < length w.entries.items = run_within w.entries.items _ c.args.trace c.args.hint c.requires in
    let there = entry_is w.plans.items w.entries.items w.entered c.args.trace e c.index-entry.ensures lt in
    let of = plan_is w.plans.items w.entries.items w.entered c.args.trace e c.index-entry.ensures lt c.index-plan.result.now c.index-plan.ensures in
    let r = runs_with w.choice w.fit w.plans.items w.entries.items w.entered c.args.trace e c.index-plan.result.now there of c.args.hint c.requires in
    subst (HasRow w.choice.regs) (sym c.in-Some.ensures) r.row

pub result-requires-in-None-clause-small : goal.result-requires-in-None-clause-small
result-requires-in-None-clause-small c =
    let w = c.args.self.now in
    number_small w.plans.items w.entries.items w.entered c.args.trace c.index-entry.result.now c.index-entry.ensures (run_within w.entries.items _ c.args.trace c.args.hint c.requires) c.index-plan.result.now c.index-plan.ensures w.before w.behind w.small

pub result-requires-in-None-clause-within : goal.result-requires-in-None-clause-within
result-requires-in-None-clause-within c =
    let w = c.args.self.now in
    (entry_of_plan w.plans.items w.entries.items w.entered c.args.trace c.index-entry.result.now c.index-entry.ensures (run_within w.entries.items _ c.args.trace c.args.hint c.requires) c.index-plan.result.now c.index-plan.ensures).within

pub returns-in-Some : goal.returns-in-Some
returns-in-Some c =
    let w = c.args.self.now in
    let e = c.index-entry.result.now in
    let p = c.index-plan.result.now in
    let lt : c.args.trace < length w.entries.items = run_within w.entries.items _ c.args.trace c.args.hint c.requires in
    let there = entry_is w.plans.items w.entries.items w.entered c.args.trace e c.index-entry.ensures lt in
    let of = plan_is w.plans.items w.entries.items w.entered c.args.trace e c.index-entry.ensures lt p c.index-plan.ensures in
    let r = runs_with w.choice w.fit w.plans.items w.entries.items w.entered c.args.trace e p there of c.args.hint c.requires in
    finally w.choice w.fit w.plans.items w.entries.items w.entered c.args.trace e p there of c.result.result (λ planned. c.result.ensures (subst (λ o. IsHint w.choice p e.number (plain_hint o)) (sym c.in-Some.ensures) (r.is planned)))

pub returns-in-None : goal.returns-in-None
returns-in-None c =
    let w = c.args.self.now in
    let e = c.index-entry.result.now in
    let p = c.index-plan.result.now in
    let lt : c.args.trace < length w.entries.items = run_within w.entries.items _ c.args.trace c.args.hint c.requires in
    let there = entry_is w.plans.items w.entries.items w.entered c.args.trace e c.index-entry.ensures lt in
    let of = plan_is w.plans.items w.entries.items w.entered c.args.trace e c.index-entry.ensures lt p c.index-plan.ensures in
    let r = runs_with w.choice w.fit w.plans.items w.entries.items w.entered c.args.trace e p there of c.args.hint c.requires in
    finally w.choice w.fit w.plans.items w.entries.items w.entered c.args.trace e p there of c.result-in-None.result (λ planned. c.result-in-None.ensures (subst (λ o. IsHint w.choice p e.number (plain_hint o)) (sym c.in-None.ensures) (r.is planned)))
