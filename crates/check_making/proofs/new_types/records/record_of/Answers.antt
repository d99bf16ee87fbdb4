use Rattle.std.proofs.Common.{refl, ap, subst, arith}
use Rattle.std.specs.Prelude.{slice_set}
use Rattle.ob_judge.specs.Scopes.{World}
use Rattle.ob_judge.specs.Making.{with_known}
use Rattle.check_types.proofs.steps.Answering.{exit, as_judged}
use Rattle.check_types.specs.declared.types.TypeRef.TheVariants as TheType
use Rattle.table_builder.proofs.Growing.{element_still}
use Rattle.check_making.specs.Making.{Makes}
use Rattle.check_making.proofs.parameters.Answering.{breaks_so, no_memory}
use Rattle.check_making.proofs.new_types.Cells.{few_cells, many_cells}
use Rattle.check_making.proofs.new_types.FieldLists.{field_first}
use Rattle.check_making.proofs.new_types.WholeRecords.{record_there, whole_ready, whole_means, too_big, fits}
use Rattle.check_making.proofs.new_types.records.record_of.Goals as goal

pub set_record-requires-clause-there : goal.set_record-requires-clause-there
set_record-requires-clause-there c = record_there c.args.state.now.types c.requires.settled.built c.args.r c.requires.element.numbered

pub set_record-requires-clause-ready : goal.set_record-requires-clause-ready
set_record-requires-clause-ready c =
    let few = c.if-layout-gt-LIMIT.false in
    whole_ready c.args.state.now.types.table c.args.round.now.module_number c.args.r c.args.layout c.in_ok-layout.layout c.in_ok-layout.ensures.whole c.requires.ready (omega (arith, few))

pub returns-then-layout-gt-LIMIT-clause-judged : goal.returns-then-layout-gt-LIMIT-clause-judged
returns-then-layout-gt-LIMIT-clause-judged c = λ g h m makes.
    as_judged (too_big c.args.round.now.source.now c.args.record_word c.args.r g m (many_cells c.args.layout.cells g.cells h.cells c.if-layout-gt-LIMIT.true)) (breaks_so 35 _ c.fault.ensures)

pub returns-in_err-layout-clause-judged : goal.returns-in_err-layout-clause-judged
returns-in_err-layout-clause-judged c = λ g h m makes. exit _ c.from_residual.ensures.1 (no_memory _ c.in_err-layout.ensures.memory)

pub returns-in_err-set_record-clause-judged : goal.returns-in_err-set_record-clause-judged
returns-in_err-set_record-clause-judged c = λ g h m makes.
    let few = c.if-layout-gt-LIMIT.false in
    exit _ c.from_residual-in_err-set_record.ensures.1
    (as_judged (fits c.args.round.now.source.now c.args.record_word c.args.r g m (few_cells c.args.layout.cells g.cells h.cells (omega (arith, few)))) (field_first (c.in_err-set_record.ensures.judged m makes)))

pub returns-clause-judged : goal.returns-clause-judged
returns-clause-judged c = λ g h m makes.
    let s = c.args.state.now in
    let r = c.args.round.now in
    let new = c.set_record.new.self in
    let few = c.if-layout-gt-LIMIT.false in
    as_judged (fits r.source.now c.args.record_word c.args.r g m (few_cells c.args.layout.cells g.cells h.cells (omega (arith, few))))
    (record {
      by = record {
        value = record { shape_is = refl; element = element_still s.types.table new.types.table c.in_ok-set_record.ensures.grows (TheType.Record c.args.r) c.requires.element };
        makes = subst (λ l. Makes r new (with_known (λ k. record k { records = slice_set k.records c.args.r l }) m))
            (whole_means s.types.table r.module_number c.args.r c.args.layout c.in_ok-layout.layout c.in_ok-layout.ensures.whole g h (omega (arith, few)) m.world.module_number (ap (λ (w : World). w.module_number) makes.world))
            ((c.in_ok-set_record.ensures.judged m makes).by).makes;
      };
    })
