use Rattle.std.proofs.Common.{◌≡◌, ◌∙◌, ◌-◌, ◌+◌, ◌*◌, length, get_or, drop, refl, ap, sym, subst, arith}
use Rattle.std.proofs.lemmas.List.{drop_all}
use Rattle.ob_judge.specs.Scopes.{place}
use Rattle.ob_judge.specs.Types.{arrays}
use Rattle.check_types.proofs.steps.Answering.{exit, as_judged}
use Rattle.std.specs.Prelude.{min}
use Rattle.ob_judge.specs.Shapes.{Known, cells}
use Rattle.table_builder.specs.Cells.{most_cells}
use Rattle.judged_programs.specs.Complete.{IsKnown}
use Rattle.check_types.specs.Known.{known_of}
use Rattle.check_types.specs.TypeMeaning.{type_shape}
use Rattle.check_making.specs.Making.{table_of}
use Rattle.check_making.proofs.Growing.{grows_on}
use Rattle.check_making.proofs.new_types.ArrayLists.{arrays_from, arrays_stop, type_comes}
use Rattle.check_making.proofs.new_types.LegalArrays.{length_at, array_known, counted_array}
use Rattle.check_making.proofs.new_types.array_types.arrays.Goals as goal

pub loop-left-init : goal.loop-left-init
loop-left-init c = record {
  within = (omega arith);
  counted = c.cells-cells.ensures;
  small = let e = c.cells-cells.ensures in omega (arith, e);
  settled = c.requires.settled;
  grows = record { entry = λ n e h. h; shape = λ e h. refl };
  known = refl;
  inner = λ h. h;
  legal = λ lengths h legal. legal;
  element = c.requires.element;
  makes = λ m h. h;
  judged = λ m h. ap (λ ns. arrays (place c.args.round.now.source.now c.args.array_word) ns (type_shape (table_of c.args.state.now) c.args.element) m.world) (drop_all (length c.args.lengths.now) c.args.lengths.now (omega arith));
}

pub loop-left-preserved : goal.loop-left-preserved
loop-left-preserved c =
    let p = c.args.round.now.source.now in
    let s = c.loop-left.state in
    let ns = c.args.lengths.now in
    let shape = type_shape (table_of c.args.state.now) c.args.element in
    let more = c.loop-left-test.true in
    let within = c.loop-left.invariant.within in
    let next : (c.loop-left.left - 1) + 1 ≡ c.loop-left.left = omega (arith, more) in
    let known = known_of c.args.state.now.types.table in
    let records = known.records in
    let n = get_or ns (c.loop-left.left - 1) 0 in
    let times =
    c.capped-cells.ensures.is ∙ ap (λ k. min most_cells (c.loop-left.cells * k)) c.from.ensures
    ∙ counted_array known known refl n c.loop-left.cells (type_shape (table_of s) c.loop-left.of) c.loop-left.invariant.counted in
    record {
      within = omega (arith, within);
      counted = times ∙ ap (λ a. min most_cells (cells known a)) (sym c.in_ok-of.ensures.shape.shape_is);
      small = c.capped-cells.ensures.small;
      settled = c.in_ok-of.ensures.settled;
      grows = grows_on c.args.state.now.types.table s.types.table c.array_of.new.state.types.table c.loop-left.invariant.grows c.in_ok-of.ensures.grows;
      known = c.in_ok-of.ensures.known ∙ c.loop-left.invariant.known;
      inner = λ h.
          subst (IsKnown records) (sym c.in_ok-of.ensures.shape.shape_is)
          (array_known records (get_or ns (c.loop-left.left - 1) 0) (type_shape (table_of s) c.loop-left.of) (c.loop-left.invariant.inner h));
      legal = λ lengths h legal.
          c.in_ok-of.ensures.legal (length_at ns (c.loop-left.left - 1) (omega (arith, more, within)) lengths)
          (subst (λ (k : Known). IsKnown k.records (type_shape (table_of s) c.loop-left.of)) (sym c.loop-left.invariant.known) (c.loop-left.invariant.inner h))
          (c.loop-left.invariant.legal lengths h legal);
      element = c.in_ok-of.ensures.element;
      makes = λ m h. c.in_ok-of.ensures.makes m (c.loop-left.invariant.makes m h);
      judged = λ m h.
          arrays_from p c.args.array_word m.world ns (c.loop-left.left - 1) shape (type_shape (table_of s) c.loop-left.of) (omega (arith, more, within))
          (ap (λ k. arrays (place p c.args.array_word) (drop k ns) shape m.world) next ∙ c.loop-left.invariant.judged m h)
          ∙ type_comes _ (c.in_ok-of.ensures.judged m (c.loop-left.invariant.makes m h));
    }

pub array_of-requires-clause-cells : goal.array_of-requires-clause-cells
array_of-requires-clause-cells c =
    let s = c.loop-left.state in
    c.capped-cells.ensures.is ∙ ap (λ k. min most_cells (c.loop-left.cells * k)) c.from.ensures
    ∙ counted_array (known_of c.args.state.now.types.table) (known_of s.types.table) c.loop-left.invariant.known (get_or c.args.lengths.now (c.loop-left.left - 1) 0) c.loop-left.cells (type_shape (table_of s) c.loop-left.of) c.loop-left.invariant.counted

pub returns-in_err-of-clause-judged : goal.returns-in_err-of-clause-judged
returns-in_err-of-clause-judged c = λ m h.
    let p = c.args.round.now.source.now in
    let s = c.loop-left.state in
    let ns = c.args.lengths.now in
    let shape = type_shape (table_of c.args.state.now) c.args.element in
    let more = c.loop-left-test.true in
    let within = c.loop-left.invariant.within in
    let next : (c.loop-left.left - 1) + 1 ≡ c.loop-left.left = omega (arith, more) in
    exit _ c.from_residual.ensures.1
    (arrays_stop p m.world (place p c.args.array_word) ns (c.loop-left.left - 1) shape
    (as_judged (arrays_from p c.args.array_word m.world ns (c.loop-left.left - 1) shape (type_shape (table_of s) c.loop-left.of) (omega (arith, more, within))
    (ap (λ k. arrays (place p c.args.array_word) (drop k ns) shape m.world) next ∙ c.loop-left.invariant.judged m h))
    (c.in_err-of.ensures.judged m (c.loop-left.invariant.makes m h))))

pub returns-clause-judged : goal.returns-clause-judged
returns-clause-judged c = λ m h.
    let p = c.args.round.now.source.now in
    let ns = c.args.lengths.now in
    let shape = type_shape (table_of c.args.state.now) c.args.element in
    let past = c.loop-left-test.false in
    let none : 0 ≡ c.loop-left.left = omega (arith, past) in
    as_judged (ap (λ k. arrays (place p c.args.array_word) (drop k ns) shape m.world) none ∙ c.loop-left.invariant.judged m h) (record { by = record { shape_is = refl; element = c.loop-left.invariant.element } })
