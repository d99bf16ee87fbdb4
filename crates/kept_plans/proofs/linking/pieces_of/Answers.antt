use Rattle.std.proofs.Common.{[], ◌∷◌, ◌++◌, map, length, ap, sym, ◌∙◌, arith, length-append}
use Rattle.procedure_code.specs.Views.{piece_in}
use Rattle.procedure_code.proofs.Rows.{errs_with}
use Rattle.link_plan.proofs.Cuts.{map_last}
use Rattle.kept_plans.proofs.Plans.{pieces_more, whole_at, over_plan}
use Rattle.kept_plans.proofs.linking.pieces_of.Goals as goal

pub returns-in_err-piece-clause-limit : goal.returns-in_err-piece-clause-limit
returns-in_err-piece-clause-limit c =
    errs_with _ _ c.from_residual-in_err-piece.result c.from_residual-in_err-piece.ensures.1
    (λ fault same limit. over_plan c.args.plans.now c.loop-plan.plan-index c.plan-item.result c.loop-plan-test.true c.plan-item.is (c.in_err-piece.ensures.limit (sym same ∙ limit)))

pub loop-plan-preserved : goal.loop-plan-preserved
loop-plan-preserved c =
    let plans = c.args.plans.now in
    let i = c.loop-plan.plan-index in
    record {
      count =
          let n = ap length c.in_ok-push.ensures.items in
          let m = length-append c.loop-plan.pieces.items (c.in_ok-piece.piece ∷ []) in
          omega (arith, n, m, c.loop-plan.invariant.count);
      pieces = λ all.
          pieces_more plans i c.plan-item.result (map piece_in c.loop-plan.pieces.items) (map piece_in c.push.new.self.items) _ c.loop-plan-test.true c.plan-item.is
          (ap (map piece_in) c.in_ok-push.ensures.items ∙ map_last piece_in c.loop-plan.pieces.items c.in_ok-piece.piece
          ∙ ap (λ q. map piece_in c.loop-plan.pieces.items ++ q ∷ []) (c.in_ok-piece.ensures.piece (whole_at plans i c.plan-item.result c.loop-plan-test.true c.plan-item.is all)))
          (c.loop-plan.invariant.pieces all);
    }
