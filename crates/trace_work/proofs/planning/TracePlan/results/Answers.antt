use Rattle.std.proofs.Common.{◌+◌, [], ◌∷◌, length, ap, sym, subst, arith, length-append}
use Rattle.trace_work.specs.Plans.{AreFinalsTo}
use Rattle.trace_work.proofs.Lending.{finals_more}
use Rattle.trace_work.proofs.planning.TracePlan.results.Goals as goal

pub loop-number-preserved : goal.loop-number-preserved
loop-number-preserved c =
    let choice = c.args.choice.now in
    let p = c.args.self.now in
    let n = c.loop-number.number in
    let outs = c.loop-number.outs.items in
    let is = c.loop-number.invariant in
    let out = c.in_ok-out.out in
    let pushed = c.in_ok-push.ensures.items in
    record {
      count = let l = length-append outs (out ∷ []) in let e = ap length pushed in let k = is.count in omega (arith, l, e, k);
      finals = λ planned.
          let finals = is.finals planned in
          let final = c.in_ok-out.ensures planned (subst (AreFinalsTo choice p n) (sym c.as_slice.ensures.value) finals) in
          finals_more choice p n (n + 1) outs c.push.new.self.items out finals final pushed (omega arith);
    }
