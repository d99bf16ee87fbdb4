use Rattle.std.proofs.Common.{◌<◌, ◌^◌, ◌∙◌, map, length, ap, sym, subst, refl, arith}
use Rattle.placed_code.specs.Layout.{all_words}
use Rattle.placed_code.specs.Results.{all_placed}
use Rattle.linked_flows.specs.Allocations.{steps_of, all_allocated}
use Rattle.link_blocks.specs.Plans.{placed_in}
use Rattle.procedure_code.specs.Views.{piece_in}
use Rattle.procedure_code.proofs.Rows.{errs_with}
use Rattle.link_plan.specs.Linked.{ArePieces, small_frame, greatest_in}
use Rattle.link_plan.proofs.Longer.{long_plain}
use Rattle.link_plan.proofs.Running.{frame_is}
use Rattle.kept_plans.proofs.Plans.{are_kept}
use Rattle.kept_plans.proofs.linking.link_kept.Goals as goal

pub returns-in_err-plans-clause-misfit : goal.returns-in_err-plans-clause-misfit
returns-in_err-plans-clause-misfit c =
    errs_with _ _ c.from_residual.result c.from_residual.ensures.1
    (λ fault same refused k cuts are small. absurd (c.in_err-plans.ensures.misfit (sym same ∙ refused) k cuts are small))

pub returns-in_err-pieces-clause-limit : goal.returns-in_err-pieces-clause-limit
returns-in_err-pieces-clause-limit c =
    errs_with _ _ c.from_residual-in_err-pieces.result c.from_residual-in_err-pieces.ensures.1
    (λ fault same limit k cuts are.
    let plans = ap (map placed_in) c.as_slice.ensures.value ∙ c.in_ok-plans.ensures.plans k cuts are in
    let far = subst (λ ps. 2 ^ 18 < length (all_words ps)) plans (c.in_err-pieces.ensures.limit (sym same ∙ limit)) in
    let long = long_plain (all_placed steps_of (all_allocated cuts)) in
    omega (arith, far, long))

pub image_of_pieces-requires-clause-names : goal.image_of_pieces-requires-clause-names
image_of_pieces-requires-clause-names c some =
    let all = c.requires.names some in
    let one = ap length c.as_slice.ensures.value in
    let two = ap length c.as_slice-2.ensures.value in
    omega (arith, all, one, two, c.in_ok-plans.ensures.count, c.in_ok-pieces.ensures.count)

pub returns-clause-image : goal.returns-clause-image
returns-clause-image c k cuts are =
    let made = c.in_ok-plans.ensures in
    let plans = ap (map placed_in) c.as_slice.ensures.value ∙ made.plans k cuts are in
    let there = are_kept k _ _ _ (map placed_in c.as_slice.result.now) (map piece_in c.in_ok-pieces.pieces.items) cuts are plans c.in_ok-pieces.ensures.pieces made.fits in
    c.in_ok-image.ensures.image k cuts (subst (λ qs. ArePieces k (map piece_in qs) cuts) (sym c.as_slice-2.ensures.value) there)

pub returns-in_err-image-clause-limit : goal.returns-in_err-image-clause-limit
returns-in_err-image-clause-limit c =
    let made = c.in_ok-plans.ensures in
    errs_with _ _ c.from_residual-in_err-image.result c.from_residual-in_err-image.ensures.1
    (λ fault same limit k cuts are.
    let plans = ap (map placed_in) c.as_slice.ensures.value ∙ made.plans k cuts are in
    let there = are_kept k _ _ _ (map placed_in c.as_slice.result.now) (map piece_in c.in_ok-pieces.pieces.items) cuts are plans c.in_ok-pieces.ensures.pieces made.fits in
    c.in_err-image.ensures.limit (sym same ∙ limit) k cuts (subst (λ qs. ArePieces k (map piece_in qs) cuts) (sym c.as_slice-2.ensures.value) there))

pub returns-in_err-image-clause-misfit : goal.returns-in_err-image-clause-misfit
returns-in_err-image-clause-misfit c =
    let made = c.in_ok-plans.ensures in
    errs_with _ _ c.from_residual-in_err-image.result c.from_residual-in_err-image.ensures.1
    (λ fault same refused k cuts are small.
    let plans = ap (map placed_in) c.as_slice.ensures.value ∙ made.plans k cuts are in
    let there = are_kept k _ _ _ (map placed_in c.as_slice.result.now) (map piece_in c.in_ok-pieces.pieces.items) cuts are plans c.in_ok-pieces.ensures.pieces made.fits in
    let far = c.in_err-image.ensures.misfit (sym same ∙ refused) in
    record {
      unnamed = far.unnamed;
      far = subst (λ n. small_frame < n) (ap (λ qs. greatest_in (map piece_in qs)) c.as_slice-2.ensures.value ∙ frame_is k _ cuts there _ refl) far.far;
    })
