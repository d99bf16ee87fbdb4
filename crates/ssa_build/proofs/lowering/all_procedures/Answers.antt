use Rattle.std.proofs.Common.{◌++◌, ◌<◌, [], ◌∷◌, length, get_or, ap, ◌∙◌, subst}
use Rattle.ssa_lowered.specs.Data.{layout}
use Rattle.ssa_lowered.specs.Limits.{limits_from}
use Rattle.ssa_lowered.specs.Lowered.{procs_from}
use Rattle.ssa_build.proofs.Limits.{procs_more, limits_more, limits_told}
use Rattle.ssa_build.proofs.lowering.all_procedures.Goals as goal

pub returns-in-Err-clause-limit : goal.returns-in-Err-clause-limit
returns-in-Err-clause-limit c =
    let p = c.args.program.now in
    let l = layout p.types in
    let q = c.index-procedures-f.result in
    let lt = subst (λ qs. c.loop-f.f < length qs) c.as_slice-procedures.ensures c.loop-f-test.true in
    let is = c.index-procedures-f.is ∙ ap (λ qs. get_or qs c.loop-f.f q) c.as_slice-procedures.ensures in
    limits_told p l c.in-Err.e p.procedures c.loop-f.f q (limits_from p l 0 p.procedures) lt is c.loop-f.invariant.1 c.in-Err.ensures.limit

pub loop-f-preserved : goal.loop-f-preserved
loop-f-preserved c =
    let p = c.args.program.now in
    let l = layout p.types in
    let q = c.index-procedures-f.result in
    let lt = subst (λ qs. c.loop-f.f < length qs) c.as_slice-procedures.ensures c.loop-f-test.true in
    let is = c.index-procedures-f.is ∙ ap (λ qs. get_or qs c.loop-f.f q) c.as_slice-procedures.ensures in (
      procs_more p l p.procedures c.loop-f.f q c.loop-f.list c.push.new.self (procs_from p l 0 p.procedures) lt is (c.in-Ok-push.ensures.ok ∙ ap (λ m. c.loop-f.list ++ (m ∷ [])) c.in-Ok.ensures.ok) c.loop-f.invariant.0,
      limits_more p l p.procedures c.loop-f.f q (limits_from p l 0 p.procedures) lt is c.in-Ok.ensures.within c.loop-f.invariant.1,
    )
