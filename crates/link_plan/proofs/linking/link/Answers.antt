use Rattle.std.proofs.Common.{◌<◌, ◌∙◌, map, length, ap, sym, subst, refl, arith}
use Rattle.procedure_code.specs.Views.{piece_in}
use Rattle.link_plan.specs.Linked.{ArePieces, small_frame, greatest_in}
use Rattle.procedure_code.proofs.Rows.{errs_with}
use Rattle.link_plan.proofs.Running.{are_pieces, frame_is, on_err}
use Rattle.link_plan.proofs.linking.link.Goals as goal

pub returns-clause-image : goal.returns-clause-image
returns-clause-image c k cuts are =
    let made = c.in_ok-add_pieces.ensures in
    let there = are_pieces k _ _ _ (map piece_in c.add_pieces.new.pieces.items) _ cuts are (ap (map piece_in) c.in_ok-pieces.ensures.items) (made.pieces k cuts are) made.fits in
    c.image_of_pieces.ensures.image k cuts (subst (λ ps. ArePieces k (map piece_in ps) cuts) (sym c.as_slice.ensures.value) there)

pub returns-clause-runs : goal.returns-clause-runs
returns-clause-runs c k cuts input are bytes low =
    let made = c.in_ok-add_pieces.ensures in
    let there = are_pieces k _ _ _ (map piece_in c.add_pieces.new.pieces.items) _ cuts are (ap (map piece_in) c.in_ok-pieces.ensures.items) (made.pieces k cuts are) made.fits in
    c.image_of_pieces.ensures.runs k cuts input (subst (λ ps. ArePieces k (map piece_in ps) cuts) (sym c.as_slice.ensures.value) there) bytes low

pub returns-clause-limit : goal.returns-clause-limit
returns-clause-limit c =
    let made = c.in_ok-add_pieces.ensures in
    on_err _ _ c.image_of_pieces.result c.image_of_pieces.ensures.limit
    (λ fault holds limit k cuts are.
    let there = are_pieces k _ _ _ (map piece_in c.add_pieces.new.pieces.items) _ cuts are (ap (map piece_in) c.in_ok-pieces.ensures.items) (made.pieces k cuts are) made.fits in
    holds limit k cuts (subst (λ ps. ArePieces k (map piece_in ps) cuts) (sym c.as_slice.ensures.value) there))

pub image_of_pieces-requires-clause-names : goal.image_of_pieces-requires-clause-names
image_of_pieces-requires-clause-names c some =
    let all = c.requires.names some in
    let one = ap length c.as_slice.ensures.value in
    let none = ap length c.in_ok-pieces.ensures.items in
    omega (arith, all, one, none, c.in_ok-add_pieces.ensures.count)

pub returns-in_err-add_pieces-clause-misfit : goal.returns-in_err-add_pieces-clause-misfit
returns-in_err-add_pieces-clause-misfit c =
    errs_with _ _ c.from_residual-in_err-add_pieces.result c.from_residual-in_err-add_pieces.ensures.1
    (λ fault same refused k cuts are small. absurd (c.in_err-add_pieces.ensures.misfit (sym same ∙ refused) k cuts are small))

pub returns-clause-misfit : goal.returns-clause-misfit
returns-clause-misfit c =
    let made = c.in_ok-add_pieces.ensures in
    on_err _ _ c.image_of_pieces.result c.image_of_pieces.ensures.misfit
    (λ fault holds refused k cuts are small.
    let there = are_pieces k _ _ _ (map piece_in c.add_pieces.new.pieces.items) _ cuts are (ap (map piece_in) c.in_ok-pieces.ensures.items) (made.pieces k cuts are) made.fits in
    let far = holds refused in
    record {
      unnamed = far.unnamed;
      far = subst (λ n. small_frame < n) (ap (λ ps. greatest_in (map piece_in ps)) c.as_slice.ensures.value ∙ frame_is k _ cuts there _ refl) far.far;
    })

pub returns-in_err-add_pieces-clause-limit : goal.returns-in_err-add_pieces-clause-limit
returns-in_err-add_pieces-clause-limit c =
    errs_with _ _ c.from_residual-in_err-add_pieces.result c.from_residual-in_err-add_pieces.ensures.1
    (λ fault same limit. c.in_err-add_pieces.ensures.limit (sym same ∙ limit))
