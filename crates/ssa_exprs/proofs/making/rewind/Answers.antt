use Rattle.std.proofs.Common.{◌≡◌, ◌-◌, ◌≤◌, suc, drop, take, length, ap, ap₂, ◌∙◌, arith}
use Rattle.std.specs.Prelude.{slice_set}
use Rattle.ssa_exprs.specs.Changes.{undone}
use Rattle.ssa_exprs.proofs.Changes.{undone_last, taken_last}
use Rattle.ssa_exprs.proofs.making.rewind.Goals as goal

pub loop-log-preserved : goal.loop-log-preserved
loop-log-preserved c =
    let xs = c.loop-log.log.items in
    let n = c.len-at.result - 1 in
    let m = c.args.moment in
    let d = c.index-last.result.now in
    let env = c.loop-log.env.items in
    let len : length xs ≡ suc n = omega (arith, c.len-at.ensures, c.len.ensures, c.loop-log.log.ok.0) in
    let le : m ≤ n = omega (arith, c.len-at.ensures, c.len.ensures, c.loop-log.log.ok.0) in
    record {
      env =
          ap₂ (λ l e. undone (drop m l) e) c.truncate.ensures.items (c.take_back.ensures ∙ ap (λ u. slice_set env u.variable u.value) c.index-last.ensures)
          ∙ undone_last xs n m d env len le
          ∙ c.loop-log.invariant.env;
      log = ap (take m) c.truncate.ensures.items ∙ taken_last xs n m d len le ∙ c.loop-log.invariant.log;
    }
