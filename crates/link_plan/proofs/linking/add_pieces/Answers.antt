use Rattle.std.proofs.Common.{rules, ℕ, ◌<◌, ◌^◌, List, map, length, sym, ◌∙◌, arith}
use Rattle.std.specs.Vec.Iter.{into_iter_items}
use Rattle.placed_code.specs.Layout.{all_words}
use Rattle.placed_code.specs.Results.{all_placed}
use Rattle.linked_flows.specs.Allocations.{Cut, steps_of, all_allocated}
use Rattle.procedure_code.specs.Views.{piece_in}
use Rattle.procedure_code.proofs.Rows.{errs_with}
use Rattle.link_plan.specs.Linked.{AreCuts}
use Rattle.link_plan.proofs.Cuts.{CutAt, cut_at, next_is, item_at, left_none, drop_next, same_lengths, fits_more, pieces_more, pieces_all, cuts_length}
use Rattle.link_plan.proofs.Low.{and_left, and_right, either}
use Rattle.link_plan.proofs.Longer.{over_cut}
use Rattle.link_plan.proofs.linking.add_pieces.Goals as goal

pub returns-in_err-lines-clause-misfit : goal.returns-in_err-lines-clause-misfit
returns-in_err-lines-clause-misfit c =
    errs_with _ _ c.from_residual.result c.from_residual.ensures.1
    (λ fault same refused k cuts are small.
    let n = (same_lengths k _ _ _ cuts are).0 in
    let lt = c.loop-flow-test.true in
    let none = left_none (λ v. v.items) c.args.parts.items (into_iter_items c.loop-flow.parts) c.loop-flow.flow-index c.loop-flow.invariant.parts (search rules) in
    omega (arith, n, lt, none))

pub returns-in_err-results-clause-misfit : goal.returns-in_err-results-clause-misfit
returns-in_err-results-clause-misfit c =
    errs_with _ _ c.from_residual-in_err-results.result c.from_residual-in_err-results.ensures.1
    (λ fault same refused k cuts are small.
    let n = (same_lengths k _ _ _ cuts are).1 in
    let lt = c.loop-flow-test.true in
    let none = left_none (λ v. v.items) c.args.outs.items (into_iter_items c.loop-flow.outs) c.loop-flow.flow-index c.loop-flow.invariant.outs (search rules) in
    omega (arith, n, lt, none))

pub returns-in_err-one-clause-misfit : goal.returns-in_err-one-clause-misfit
returns-in_err-one-clause-misfit c =
    errs_with _ _ c.from_residual-in_err-one.result c.from_residual-in_err-one.ensures.1
    (λ fault same refused k cuts are small.
    let a = c.args in
    let i = c.loop-flow.flow-index in
    let lines = next_is a.parts.items (into_iter_items c.loop-flow.parts) (into_iter_items c.next.new.self) i c.next.result c.in_ok-lines.lines c.loop-flow.invariant.parts c.next.ensures.items c.in_ok-lines.ensures.ok_part in
    let results = next_is a.outs.items (into_iter_items c.loop-flow.outs) (into_iter_items c.next-in-loop-flow.new.self) i c.next-in-loop-flow.result c.in_ok-results.results c.loop-flow.invariant.outs c.next-in-loop-flow.ensures.items c.in_ok-results.ensures.ok_part in
    let at = cut_at k a.flows.now (map (λ v. v.items) a.parts.items) (map (λ v. v.items) a.outs.items) cuts are i c.flow-item.result c.as_slice.result.now c.as_slice-in-loop-flow.result.now c.loop-flow-test.true c.flow-item.is
    (c.as_slice.ensures.value ∙ item_at (λ v. v.items) a.parts.items i c.in_ok-lines.lines (into_iter_items c.next.new.self) lines)
    (c.as_slice-in-loop-flow.ensures.value ∙ item_at (λ v. v.items) a.outs.items i c.in_ok-results.results (into_iter_items c.next-in-loop-flow.new.self) results) in
    c.in_err-one.ensures.misfit (sym same ∙ refused) k at.cut at.is (small i at.cut at.rest at.drops))

pub loop-flow-preserved : goal.loop-flow-preserved
loop-flow-preserved c =
    let a = c.args in
    let i = c.loop-flow.flow-index in
    let lines = next_is a.parts.items (into_iter_items c.loop-flow.parts) (into_iter_items c.next.new.self) i c.next.result c.in_ok-lines.lines c.loop-flow.invariant.parts c.next.ensures.items c.in_ok-lines.ensures.ok_part in
    let results = next_is a.outs.items (into_iter_items c.loop-flow.outs) (into_iter_items c.next-in-loop-flow.new.self) i c.next-in-loop-flow.result c.in_ok-results.results c.loop-flow.invariant.outs c.next-in-loop-flow.ensures.items c.in_ok-results.ensures.ok_part in
    let at : (k : ℕ) (cuts : List Cut) → AreCuts k a.flows.now (map (λ v. v.items) a.parts.items) (map (λ v. v.items) a.outs.items) cuts → CutAt k c.flow-item.result c.as_slice.result.now c.as_slice-in-loop-flow.result.now cuts i =
    λ k cuts are. cut_at k a.flows.now (map (λ v. v.items) a.parts.items) (map (λ v. v.items) a.outs.items) cuts are i c.flow-item.result c.as_slice.result.now c.as_slice-in-loop-flow.result.now c.loop-flow-test.true c.flow-item.is
    (c.as_slice.ensures.value ∙ item_at (λ v. v.items) a.parts.items i c.in_ok-lines.lines (into_iter_items c.next.new.self) lines)
    (c.as_slice-in-loop-flow.ensures.value ∙ item_at (λ v. v.items) a.outs.items i c.in_ok-results.results (into_iter_items c.next-in-loop-flow.new.self) results) in
    record {
      parts = sym (drop_next a.parts.items i c.in_ok-lines.lines (into_iter_items c.next.new.self) lines);
      outs = sym (drop_next a.outs.items i c.in_ok-results.results (into_iter_items c.next-in-loop-flow.new.self) results);
      count = λ both.
          let m = c.in_ok-one.ensures.count (and_right c.loop-flow.room c.in_ok-one.one both) in
          let n = c.loop-flow.invariant.count (and_left c.loop-flow.room c.in_ok-one.one both) in
          omega (arith, n, m);
      fits = fits_more a.flows.now i c.flow-item.result _ c.loop-flow-test.true c.flow-item.is c.in_ok-one.ensures.fits c.loop-flow.invariant.fits;
      pieces = λ both k cuts are.
          let here = at k cuts are in
          let all = are.each i here.cut here.rest here.drops in
          pieces_more cuts i here.cut here.rest (map piece_in c.loop-flow.pieces.items) (map piece_in c.add_piece.new.pieces.items) _ here.drops
          (c.in_ok-one.ensures.piece k here.cut are.few all here.is (and_right c.loop-flow.room c.in_ok-one.one both))
          (c.loop-flow.invariant.pieces (and_left c.loop-flow.room c.in_ok-one.one both) k cuts are);
      over = λ some k cuts are.
          let here = at k cuts are in
          let all = are.each i here.cut here.rest here.drops in
          either c.loop-flow.room c.in_ok-one.one (2 ^ 18 < length (all_words (all_placed steps_of (all_allocated cuts)))) some
          (λ no. c.loop-flow.invariant.over no k cuts are)
          (λ no. over_cut cuts i here.cut here.rest here.drops (c.in_ok-one.ensures.over k here.cut are.few all here.is no));
    }

pub returns-then-room-clause-pieces : goal.returns-then-room-clause-pieces
returns-then-room-clause-pieces c k cuts are =
    let n = cuts_length k _ _ _ cuts are in
    let ended = c.loop-flow-test.false in
    pieces_all cuts c.loop-flow.flow-index (map piece_in c.loop-flow.pieces.items) _ (omega (arith, n, ended)) (c.loop-flow.invariant.pieces c.if-room.true k cuts are)

pub returns-clause-limit : goal.returns-clause-limit
returns-clause-limit c same k cuts are = c.loop-flow.invariant.over c.if-room.false k cuts are
