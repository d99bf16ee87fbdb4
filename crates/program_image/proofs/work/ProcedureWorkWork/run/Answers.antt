use Rattle.std.proofs.Common.{◌<◌, length, sym, subst}
use Rattle.program_image.proofs.Tasks.{found_at, is_lowered, is_past, run_within}
use Rattle.program_image.proofs.work.ProcedureWorkWork.run.Goals as goal

pub bounds-as_slice-number : goal.bounds-as_slice-number
bounds-as_slice-number c = subst (λ qs. c.args.number < length qs) (sym c.as_slice.ensures) (run_within c.args.self.now.program.now.procedures _ c.args.number c.args.hint c.requires)

pub lowered_flow-requires-clause-there : goal.lowered_flow-requires-clause-there
lowered_flow-requires-clause-there c =
    let qs = c.args.self.now.program.now.procedures in
    found_at qs c.as_slice.result.now c.args.number c.index-as_slice-number.result c.as_slice.ensures (run_within qs _ c.args.number c.args.hint c.requires) c.index-as_slice-number.is

pub returns-in_ok-outcome_of-in-Ok : goal.returns-in_ok-outcome_of-in-Ok
returns-in_ok-outcome_of-in-Ok c q there =
    let w = c.args.self.now in
    let qs = w.program.now.procedures in
    let here = found_at qs c.as_slice.result.now c.args.number c.index-as_slice-number.result c.as_slice.ensures (run_within qs _ c.args.number c.args.hint c.requires) c.index-as_slice-number.is in
    is_lowered w.program.now c.args.number c.index-as_slice-number.result q here there w.choice c.in-Ok.flow c.in_ok-outcome_of-in-Ok.field-0 c.in-Ok.ensures.lowered c.in-Ok.ensures.flow c.in_ok-outcome_of-in-Ok.ensures.outcome

pub returns-in-Limit : goal.returns-in-Limit
returns-in-Limit c q there =
    let w = c.args.self.now in
    let qs = w.program.now.procedures in
    let here = found_at qs c.as_slice.result.now c.args.number c.index-as_slice-number.result c.as_slice.ensures (run_within qs _ c.args.number c.args.hint c.requires) c.index-as_slice-number.is in
    is_past w.program.now c.args.number c.index-as_slice-number.result q here there c.in-Err.fault c.in-Limit.number c.in-Limit.index c.in-Limit.is c.in-Err.ensures.limit
