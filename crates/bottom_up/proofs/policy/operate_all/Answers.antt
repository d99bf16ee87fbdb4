use Rattle.std.proofs.Common.{◌≡◌, ◌∙◌, ◌+◌, ◌-◌, ap, arith, Some, sym}
use Rattle.std.specs.Prelude.{slice_get}
use Rattle.std.proofs.lemmas.Option.{slice_get-get_or}
use Rattle.trace_needs.specs.Needs.{last_mention}
use Rattle.loc_back.specs.declared.part.BackPart.{BackPart}
use Rattle.loc_back.specs.declared.backward.Backward.{Backward}
use Rattle.bottom_up.specs.Policy.{operate}
use Rattle.bottom_up.proofs.Steps.{operate_step}
use Rattle.bottom_up.proofs.policy.operate_all.Goals as goal

pub loop-left-preserved : goal.loop-left-preserved
loop-left-preserved c =
    let i = c.loop-left.left - 1 in
    let xs = c.args.lirs.now in
    let said = last_mention c.args.positions.now in
    let b0 = c.args.b.now in
    let x = c.index-lirs-left.result in
    let k : c.loop-left.left ≡ i + 1 = omega arith in
    let index : c.in_ok-index.index ≡ i = omega (arith, c.in_ok-index.ensures) in
    let there : slice_get xs i ≡ Some x = slice_get-get_or xs i x (omega arith) ∙ ap Some (sym c.index-lirs-left.is) in
    let put : BackPart → Backward = λ t. record b0 { part = t } in
    record {
      within = omega arith;
      same = c.in_ok-operate.ensures.same ∙ c.loop-left.invariant.same;
      row = c.in_ok-operate.ensures.row ∙ c.loop-left.invariant.row;
      step = c.in_ok-operate.ensures.step
          ∙ ap (λ ps. let g : Backward = record c.loop-left.b { part = operate (last_mention ps) c.in_ok-at.at c.in_ok-index.index x c.loop-left.b.part } in g) c.loop-left.invariant.same
          ∙ ap (λ j. let g : Backward = record c.loop-left.b { part = operate said c.in_ok-at.at j x c.loop-left.b.part } in g) index
          ∙ ap (λ (f : Backward). let g : Backward = record f { part = operate said c.in_ok-at.at i x f.part } in g) c.loop-left.invariant.step
          ∙ ap put (operate_step said xs i c.loop-left.left c.args.first c.in_ok-at.at x b0.part there k c.in_ok-at.ensures);
    }
