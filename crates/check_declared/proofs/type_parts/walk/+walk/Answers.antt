use Rattle.std.proofs.Common.{◌<◌, length, get_or, refl, sym, ap, ◌∙◌, subst, arith}
use Rattle.ob_syntax.specs.Plain.{plain_expression, plain_each_expression, plain_idents, plain_type}
use Rattle.ob_syntax.specs.declared.types.TypeTree.TheVariants as TheTree
use Rattle.ob_syntax.specs.declared.types.RecordType.{out-RecordType}
use Rattle.ob_judge.specs.Scopes.{place}
use Rattle.ob_judge.specs.Judged.{Keeps}
use Rattle.ob_judge.specs.Parameters.{type_at, idents_list}
use Rattle.ob_judge.specs.Types.{arrays, add_fields, forward_name, type_part, fields_part}
use Rattle.ob_judge.specs.Shapes.{Shape}
use Rattle.ob_judge.specs.Making.{new_pointer}
use Rattle.check_types.specs.steps.Answers.{Answers}
use Rattle.check_types.proofs.steps.Answering.{exit, stop, goes_on, as_judged}
use Rattle.check_types.specs.declared.types.TypeRef.TheVariants as TheType
use Rattle.check_types.specs.TypeMeaning.{type_shape}
use Rattle.table_builder.specs.Entries.{IsElement}
use Rattle.table_builder.specs.Growing.{Grows}
use Rattle.table_builder.proofs.Growing.{element_still}
use Rattle.check_making.specs.Making.{table_of, IsTypeOf}
use Rattle.check_making.specs.Parts.{Gave}
use Rattle.check_making.proofs.Growing.{grows_on}
use Rattle.check_making.proofs.parameters.Answering.{refused}
use Rattle.check_making.proofs.parameters.Rounds.{walk_begins, walk_on, walk_stops, walk_ends}
use Rattle.check_making.proofs.parameters.Stages.{stands_by, came, on_ok}
use Rattle.check_making.specs.new_types.Layouts.{IsSoFar, IsSoFarIn}
use Rattle.check_making.specs.new_types.Pointers.{points_to}
use Rattle.check_making.proofs.new_types.LayoutsSoFar.{so_far_still}
use Rattle.check_making.proofs.new_types.PointerParts.{pointer_waits, pointer_points}
use Rattle.check_declared.specs.type_parts.Lengths.{lengths_part}
use Rattle.check_declared.specs.type_parts.Records.{fields_of}
use Rattle.check_declared.specs.type_parts.TypeSyntax.{plain_maybe_fields, plain_each_fields}
use Rattle.check_declared.proofs.type_parts.TypeParts.{record_parts}
use Rattle.check_declared.proofs.type_parts.WalkLaws.{array_law, record_law, fields_on, fields_from, fields_item, fields_law, pointer_on, pointer_law}
use Rattle.check_declared.proofs.type_parts.States.{gives_in, gives_here, all_ok, has_layout, layout_known, FieldsStand, fields_stand, fields_left, type_opens, stands_by_still}
use Rattle.std.proofs.Common.{◌≡◌, Some}
use Rattle.std.specs.Prelude.{slice_get}
use Rattle.ob_judge.specs.Making.{no_layout}
use Rattle.ob_judge.specs.Types.{stand_fields as judged_names}
use Rattle.judged_modules.specs.Agrees.{records_of}
use Rattle.judged_modules.proofs.Keeping.{given}
use Rattle.judged_programs.specs.Complete.{IsKnown}
use Rattle.judged_programs.proofs.TypesTidy.{s_type, s_fields, s_stand_fields}
use Rattle.legal_tables.specs.Promised.{HasLegalTypes}
use Rattle.check_types.specs.Known.{known_of}
use Rattle.check_making.proofs.parameters.Rounds.{settled}
use Rattle.check_making.specs.new_types.Arrays.{AreLengths}
use Rattle.check_declared.specs.type_parts.Records.{begun_part}
use Rattle.check_declared.proofs.type_parts.LegalTypes.{records_are, lengths_allowed, begun_from, pointer_from, fields_stay, still_blank}
use Rattle.check_declared.proofs.type_parts.TidyStates.{TidyFields, fields_on as tidy_fields_on}
use Rattle.check_declared.proofs.type_parts.walk.+walk.Goals as goal

-- ---- types

pub type_of-returns-in-Named-clause-judged : goal.type_of-returns-in-Named-clause-judged
type_of-returns-in-Named-clause-judged t c = λ m makes.
    let p = c.args.round.now.source.now in
    as_judged (ap (λ x. type_part p (plain_type x) m) c.in-Named.is)
    (gives_here (type_at p 31 c.in-Named.name m.world) m c.type_at.result (all_ok c.type_at.result makes) (c.type_at.ensures m makes))

pub type_of-returns-in-Array-clause-judged : goal.type_of-returns-in-Array-clause-judged
type_of-returns-in-Array-clause-judged t c = λ m makes.
    as_judged (ap (λ x. type_part c.args.round.now.source.now (plain_type x) m) c.in-Array.is) (c.array_type.ensures.judged m makes)

pub type_of-returns-in-Record-clause-judged : goal.type_of-returns-in-Record-clause-judged
type_of-returns-in-Record-clause-judged t c = λ m makes.
    as_judged (ap (λ x. type_part c.args.round.now.source.now (plain_type x) m) c.in-Record.is) (c.record_type.ensures.judged m makes)

pub type_of-returns-in-Pointer-clause-judged : goal.type_of-returns-in-Pointer-clause-judged
type_of-returns-in-Pointer-clause-judged t c = λ m makes.
    as_judged (ap (λ x. type_part c.args.round.now.source.now (plain_type x) m) c.in-Pointer.is) (c.pointer_type.ensures.judged m makes)

pub type_of-returns-in-Procedure-clause-judged : goal.type_of-returns-in-Procedure-clause-judged
type_of-returns-in-Procedure-clause-judged t c = λ m makes.
    as_judged (ap (λ x. type_part c.args.round.now.source.now (plain_type x) m) c.in-Procedure.is) (c.procedure_type.ensures.judged m makes)

pub type_of-returns-in-Array-clause-procedure : goal.type_of-returns-in-Array-clause-procedure
type_of-returns-in-Array-clause-procedure t c =
    type_opens c.requires c.args.round.now.source.now (plain_type (TheTree.Array c.in-Array.inner)) c.array_type.result c.array_type.ensures.judged

pub type_of-returns-in-Record-clause-procedure : goal.type_of-returns-in-Record-clause-procedure
type_of-returns-in-Record-clause-procedure t c =
    type_opens c.requires c.args.round.now.source.now (plain_type (TheTree.Record c.in-Record.inner)) c.record_type.result c.record_type.ensures.judged

pub type_of-returns-in-Pointer-clause-procedure : goal.type_of-returns-in-Pointer-clause-procedure
type_of-returns-in-Pointer-clause-procedure t c =
    type_opens c.requires c.args.round.now.source.now (plain_type (TheTree.Pointer c.in-Pointer.inner)) c.pointer_type.result c.pointer_type.ensures.judged

pub type_of-returns-in-Procedure-clause-procedure : goal.type_of-returns-in-Procedure-clause-procedure
type_of-returns-in-Procedure-clause-procedure t c =
    type_opens c.requires c.args.round.now.source.now (plain_type (TheTree.Procedure c.in-Procedure.inner)) c.procedure_type.result c.procedure_type.ensures.judged

-- ---- arrays

pub array_type-returns-in_err-lengths-clause-judged : goal.array_type-returns-in_err-lengths-clause-judged
array_type-returns-in_err-lengths-clause-judged t c = λ m makes.
    let p = c.args.round.now.source.now in
    let x = c.args.tree.now in
    exit _ c.from_residual.ensures.1
    (as_judged (array_law p x.array_word (plain_expression x.first) (plain_each_expression x.more.items) (plain_type x.element.value) m x.of_word)
    (stop _ _ (as_judged (ap (λ es. lengths_part p (plain_expression x.first) (plain_each_expression es) m.world) (sym c.deref.ensures.value)) (c.in_err-lengths.ensures m makes))))

pub array_type-returns-in_err-element-clause-judged : goal.array_type-returns-in_err-element-clause-judged
array_type-returns-in_err-element-clause-judged t c = λ m makes.
    let p = c.args.round.now.source.now in
    let x = c.args.tree.now in
    exit _ c.from_residual-in_err-element.ensures.1
    (as_judged (array_law p x.array_word (plain_expression x.first) (plain_each_expression x.more.items) (plain_type x.element.value) m x.of_word)
    (goes_on _ _ (as_judged (ap (λ es. lengths_part p (plain_expression x.first) (plain_each_expression es) m.world) (sym c.deref.ensures.value)) (c.in_ok-lengths.ensures m makes)) (λ ns is.
    stop _ _ (as_judged (ap (λ e. type_part p (plain_type e) m) (sym c.deref-2.ensures)) (c.in_err-element.ensures.judged m makes)))))

pub array_type-arrays-requires-clause-element : goal.array_type-arrays-requires-clause-element
array_type-arrays-requires-clause-element t c = ((came c.requires c.in_ok-element.ensures.judged).1).element

pub array_type-returns-clause-stands : goal.array_type-returns-clause-stands
array_type-returns-clause-stands t c = stands_by_still c.arrays.new.state c.in_ok-element.ensures.stands c.arrays.result c.arrays.ensures.settled c.arrays.ensures.makes

pub array_type-returns-clause-grows : goal.array_type-returns-clause-grows
array_type-returns-clause-grows t c =
    on_ok c.arrays.result (λ g. grows_on c.args.state.now.types.table c.type_of.new.state.types.table c.arrays.new.state.types.table c.in_ok-element.ensures.grows g) c.arrays.ensures.grows

pub array_type-returns-clause-judged : goal.array_type-returns-clause-judged
array_type-returns-clause-judged t c = λ m makes.
    let r = c.args.round.now in
    let p = r.source.now in
    let x = c.args.tree.now in
    let new = c.arrays.new.state in
    as_judged (array_law p x.array_word (plain_expression x.first) (plain_each_expression x.more.items) (plain_type x.element.value) m x.of_word)
    (goes_on _ _ (as_judged (ap (λ es. lengths_part p (plain_expression x.first) (plain_each_expression es) m.world) (sym c.deref.ensures.value)) (c.in_ok-lengths.ensures m makes)) (λ ns is.
    goes_on _ _ (as_judged (ap (λ e. type_part p (plain_type e) m) (sym c.deref-2.ensures)) (c.in_ok-element.ensures.judged m makes)) (λ s g.
    gives_here (arrays (place p x.array_word) ns s.0 (s.1).world) s.1 c.arrays.result (on_ok c.arrays.result (λ f. f s.1 g.makes) c.arrays.ensures.makes)
    (subst (λ (z : Shape). Answers (IsTypeOf new) (arrays (place p x.array_word) ns z (s.1).world) c.arrays.result) (g.value.shape_is)
    (subst (λ ks. Answers (IsTypeOf new) (arrays (place p x.array_word) ks (type_shape (table_of c.type_of.new.state) c.in_ok-element.element) (s.1).world) c.arrays.result) (c.deref-3.ensures.value ∙ is)
    (c.arrays.ensures.judged s.1 g.makes))))))

-- ---- records

pub record_type-record_of-requires-clause-element : goal.record_type-record_of-requires-clause-element
record_type-record_of-requires-clause-element t c =
    let k = (came c.requires c.in_ok-begun.ensures.judged).1 in
    let s = c.begin_record.new.state.types.table in
    let u = c.field_lists.new.state.types.table in
    subst (λ z. IsElement z.table.entries.items (TheType.Record c.in_ok-begun.begun.number)) (sym c.names_back.ensures.types)
    (element_still s u c.in_ok-layout.ensures.grows (TheType.Record c.in_ok-begun.begun.number) k.element)

pub record_type-record_of-requires-clause-ready : goal.record_type-record_of-requires-clause-ready
record_type-record_of-requires-clause-ready t c = layout_known c.field_lists.new.state c.names_back.new.state c.in_ok-layout.layout c.names_back.ensures.types c.in_ok-layout.ensures.layout

pub record_type-returns-in_err-begun-clause-judged : goal.record_type-returns-in_err-begun-clause-judged
record_type-returns-in_err-begun-clause-judged t c = λ m makes.
    let p = c.args.round.now.source.now in
    let o = out-RecordType c.args.tree.now in
    exit _ c.from_residual.ensures.1
    (as_judged (ap (λ x. type_part p x m) (record_parts c.args.tree.now) ∙ record_law p o.record_word (plain_maybe_fields o.first) (plain_each_fields o.more.items) m o.base o.end_word)
    (stop _ _ (c.in_err-begun.ensures.judged m makes)))

pub record_type-returns-in_err-layout-clause-judged : goal.record_type-returns-in_err-layout-clause-judged
record_type-returns-in_err-layout-clause-judged t c = λ m makes.
    let r = c.args.round.now in
    let p = r.source.now in
    let o = out-RecordType c.args.tree.now in
    exit _ c.from_residual-in_err-layout.ensures.1
    (as_judged (ap (λ x. type_part p x m) (record_parts c.args.tree.now) ∙ record_law p o.record_word (plain_maybe_fields o.first) (plain_each_fields o.more.items) m o.base o.end_word)
    (goes_on _ _ (c.in_ok-begun.ensures.judged m makes) (λ a g.
    as_judged (ap (λ n. fields_on p o.record_word (plain_maybe_fields o.first) (plain_each_fields o.more.items) m n (a.0).1 a.1) (sym g.value.number))
    (stop (fields_of p c.in_ok-begun.begun.number (plain_maybe_fields o.first) (plain_each_fields o.more.items) (a.0).1 a.1) _ (c.in_err-layout.ensures.judged (a.0).1 g.value.so_far a.1 g.makes)))))

pub record_type-returns-clause-judged : goal.record_type-returns-clause-judged
record_type-returns-clause-judged t c = λ m makes.
    let r = c.args.round.now in
    let p = r.source.now in
    let o = out-RecordType c.args.tree.now in
    as_judged (ap (λ x. type_part p x m) (record_parts c.args.tree.now) ∙ record_law p o.record_word (plain_maybe_fields o.first) (plain_each_fields o.more.items) m o.base o.end_word)
    (goes_on _ _ (c.in_ok-begun.ensures.judged m makes) (λ a g.
    as_judged (ap (λ n. fields_on p o.record_word (plain_maybe_fields o.first) (plain_each_fields o.more.items) m n (a.0).1 a.1) (sym g.value.number))
    (goes_on (fields_of p c.in_ok-begun.begun.number (plain_maybe_fields o.first) (plain_each_fields o.more.items) (a.0).1 a.1) _ (c.in_ok-layout.ensures.judged (a.0).1 g.value.so_far a.1 g.makes) (λ d k.
    c.record_of.ensures.judged d.0 (subst (λ z. IsSoFar z.table c.in_ok-layout.layout d.0) (sym c.names_back.ensures.types) k.value) (record d.1 { standing = m.standing })
    (c.names_back.ensures.makes d.1 m.standing k.makes (c.in_ok-begun.ensures.names m makes))))))

pub record_type-returns-clause-stands : goal.record_type-returns-clause-stands
record_type-returns-clause-stands t c = stands_by c.requires c.record_of.result c.record_of.ensures.settled (record_type-returns-clause-judged t c)

pub record_type-returns-clause-grows : goal.record_type-returns-clause-grows
record_type-returns-clause-grows t c =
    let s = c.args.state.now.types.table in
    let u = c.field_lists.new.state.types.table in
    on_ok c.record_of.result (λ g.
    grows_on s u c.record_of.new.state.types.table (grows_on s c.begin_record.new.state.types.table u c.in_ok-begun.ensures.grows c.in_ok-layout.ensures.grows)
    (subst (λ z. Grows z.table c.record_of.new.state.types.table) c.names_back.ensures.types g)) c.record_of.ensures.grows

-- ---- fields

pub field_lists-returns-in_err-first-clause-judged : goal.field_lists-returns-in_err-first-clause-judged
field_lists-returns-in_err-first-clause-judged t c = λ g h m makes.
    let o = out-RecordType c.args.tree.now in
    exit _ c.from_residual.ensures.1 (stop (fields_part c.args.round.now.source.now c.args.r (plain_maybe_fields o.first) g m) _ (c.in_err-first.ensures.judged g h m makes))

pub field_lists-returns-clause-judged : goal.field_lists-returns-clause-judged
field_lists-returns-clause-judged t c = λ g h m makes.
    let r = c.args.round.now in
    let p = r.source.now in
    let o = out-RecordType c.args.tree.now in
    goes_on (fields_part p c.args.r (plain_maybe_fields o.first) g m) _ (c.in_ok-first.ensures.judged g h m makes) (λ b k.
    c.more_field_lists.ensures.judged b.0 k.value b.1 k.makes)

pub field_lists-returns-clause-grows : goal.field_lists-returns-clause-grows
field_lists-returns-clause-grows t c =
    on_ok c.more_field_lists.result (λ g.
    grows_on c.args.state.now.types.table c.field_list.new.state.types.table c.more_field_lists.new.state.types.table c.in_ok-first.ensures.grows g) c.more_field_lists.ensures.grows

pub field_list-returns-in-None-clause-judged : goal.field_list-returns-in-None-clause-judged
field_list-returns-in-None-clause-judged t c = λ g h m makes.
    as_judged (ap (λ o. fields_part c.args.round.now.source.now c.args.r (plain_maybe_fields o) g m) c.in-None.is) (record { by = record { value = h; makes = makes } })

pub field_list-add_fields-requires-clause-element : goal.field_list-add_fields-requires-clause-element
field_list-add_fields-requires-clause-element t c =
    ((came c.in_ok-begin_fields-in-Some.ensures.stands c.in_ok-of-in-Some.ensures.judged).1).element

pub field_list-returns-in_err-begin_fields-in-Some-clause-judged : goal.field_list-returns-in_err-begin_fields-in-Some-clause-judged
field_list-returns-in_err-begin_fields-in-Some-clause-judged t c = λ g h m makes.
    exit _ c.from_residual.ensures.1
    (as_judged (ap (λ o. fields_part c.args.round.now.source.now c.args.r (plain_maybe_fields o) g m) c.in-Some.is) (stop _ _ (c.in_err-begin_fields-in-Some.ensures.judged g h m makes)))

pub field_list-returns-in_err-of-in-Some-clause-judged : goal.field_list-returns-in_err-of-in-Some-clause-judged
field_list-returns-in_err-of-in-Some-clause-judged t c = λ g h m makes.
    exit _ c.from_residual-in_err-of-in-Some.ensures.1
    (as_judged (ap (λ o. fields_part c.args.round.now.source.now c.args.r (plain_maybe_fields o) g m) c.in-Some.is)
    (goes_on _ _ (c.in_ok-begin_fields-in-Some.ensures.judged g h m makes) (λ a made.
    stop _ _ (as_judged (ap (λ e. type_part c.args.round.now.source.now (plain_type e) a.1) (sym c.deref.ensures)) (c.in_err-of-in-Some.ensures.judged a.1 made.makes)))))

pub field_list-returns-in_ok-of-in-Some-clause-layout : goal.field_list-returns-in_ok-of-in-Some-clause-layout
field_list-returns-in_ok-of-in-Some-clause-layout t c =
    let l = c.requires.layout in
    let before = subst (λ z. IsSoFar z.table c.args.layout l.layout) (sym c.in_ok-begin_fields-in-Some.ensures.types) l.so_far in
    let old = c.in_ok-of-in-Some.ensures.stands in
    has_layout c.type_of.new.state _ c.add_fields.result
    (c.add_fields.ensures l.layout (so_far_still c.begin_fields.new.state.types.table c.type_of.new.state.types.table c.in_ok-of-in-Some.ensures.grows c.args.layout l.layout before) old.making old.makes)

pub field_list-returns-in_ok-of-in-Some-clause-grows : goal.field_list-returns-in_ok-of-in-Some-clause-grows
field_list-returns-in_ok-of-in-Some-clause-grows t c =
    all_ok c.add_fields.result (subst (λ z. Grows z.table c.type_of.new.state.types.table) c.in_ok-begin_fields-in-Some.ensures.types c.in_ok-of-in-Some.ensures.grows)

pub field_list-returns-in_ok-of-in-Some-clause-stands : goal.field_list-returns-in_ok-of-in-Some-clause-stands
field_list-returns-in_ok-of-in-Some-clause-stands t c = all_ok c.add_fields.result c.in_ok-of-in-Some.ensures.stands

pub field_list-returns-in_ok-of-in-Some-clause-judged : goal.field_list-returns-in_ok-of-in-Some-clause-judged
field_list-returns-in_ok-of-in-Some-clause-judged t c = λ g h m makes.
    let r = c.args.round.now in
    let p = r.source.now in
    let new = c.type_of.new.state in
    let before = subst (λ z. IsSoFar z.table c.args.layout g) (sym c.in_ok-begin_fields-in-Some.ensures.types) h in
    let l = so_far_still c.begin_fields.new.state.types.table new.types.table c.in_ok-of-in-Some.ensures.grows c.args.layout g before in
    as_judged (ap (λ o. fields_part p c.args.r (plain_maybe_fields o) g m) c.in-Some.is)
    (goes_on _ _ (c.in_ok-begin_fields-in-Some.ensures.judged g h m makes) (λ a made.
    goes_on _ _ (as_judged (ap (λ e. type_part p (plain_type e) a.1) (sym c.deref.ensures)) (c.in_ok-of-in-Some.ensures.judged a.1 made.makes)) (λ s k.
    subst (λ (z : Shape). Answers (Gave (IsSoFarIn new) r new) (Keeps (add_fields p c.args.r (s.1).world z (idents_list (plain_idents c.in-Some.inner.names)) g, s.1)) c.add_fields.result) k.value.shape_is
    (gives_in _ s.1 c.add_fields.result k.makes (c.add_fields.ensures g l s.1 k.makes)))))

-- ---- further fields

pub more_field_lists-loop-next-init : goal.more_field_lists-loop-next-init
more_field_lists-loop-next-init t c = record {
  stands = c.requires.stands;
  layout = c.requires.layout;
  grows = record { entry = λ n e h. h; shape = λ e h. refl };
  legal = λ from b g m h makes adding tidy. walk_begins (TidyFields c.args.round.now from b c.args.state.now) (fields_from c.args.round.now.source.now c.args.r) (g, m) (c.args.state.now, c.args.first) (out-RecordType c.args.tree.now).more.items
      (record { so_far = h; makes = makes; adding = adding; tidy = tidy; legal = λ legal. legal });
  judged = λ g h m makes. walk_begins (FieldsStand c.args.round.now) (fields_from c.args.round.now.source.now c.args.r) (g, m) (c.args.state.now, c.args.first) (out-RecordType c.args.tree.now).more.items (record { so_far = h; makes = makes });
}

pub more_field_lists-loop-next-preserved : goal.more_field_lists-loop-next-preserved
more_field_lists-loop-next-preserved t c =
    let p = c.args.round.now.source.now in
    let r = c.args.r in
    record {
      stands = c.in_ok-layout.ensures.stands;
      layout = c.in_ok-layout.ensures.layout;
      grows = grows_on c.args.state.now.types.table c.loop-next.state.types.table c.field_list.new.state.types.table c.loop-next.invariant.grows c.in_ok-layout.ensures.grows;
      legal = λ from b g m h makes adding tidy.
          walk_on (fields_from p r) (fields_item p r) (fields_law p r) (out-RecordType c.args.tree.now).more.items c.loop-next.next-index c.next-item.result (subst (λ xs. c.loop-next.next-index < length xs) c.deref-next-items.ensures.value c.loop-next-test.true) (c.loop-next.invariant.legal from b g m h makes adding tidy)
          (λ a k. as_judged (ap (λ xs. fields_item p r a (get_or xs c.loop-next.next-index c.next-item.result)) (sym c.deref-next-items.ensures.value) ∙ ap (fields_item p r a) (sym c.next-item.is))
          (tidy_fields_on from c.args.round.now b c.args.state.now c.loop-next.state c.field_list.new.state c.loop-next.layout c.in_ok-layout.layout _ a k (c.in_ok-layout.ensures.judged a.0 k.so_far a.1 k.makes)
          (s_fields from p r b _ a.0 a.1 (λ h. h)) (c.in_ok-layout.ensures.legal from b a.0 a.1 k.so_far k.makes k.adding k.tidy)));
      judged = λ g h m makes.
          walk_on (fields_from p r) (fields_item p r) (fields_law p r) (out-RecordType c.args.tree.now).more.items c.loop-next.next-index c.next-item.result (subst (λ xs. c.loop-next.next-index < length xs) c.deref-next-items.ensures.value c.loop-next-test.true) (c.loop-next.invariant.judged g h m makes)
          (λ a k. as_judged (ap (λ xs. fields_item p r a (get_or xs c.loop-next.next-index c.next-item.result)) (sym c.deref-next-items.ensures.value) ∙ ap (fields_item p r a) (sym c.next-item.is)) (fields_stand _ (c.in_ok-layout.ensures.judged a.0 k.so_far a.1 k.makes)));
    }

pub more_field_lists-returns-in_err-layout-clause-judged : goal.more_field_lists-returns-in_err-layout-clause-judged
more_field_lists-returns-in_err-layout-clause-judged t c = λ g h m makes.
    let p = c.args.round.now.source.now in
    let r = c.args.r in
    exit _ c.from_residual.ensures.1
    (walk_stops (fields_from p r) (fields_item p r) (fields_law p r) (out-RecordType c.args.tree.now).more.items c.loop-next.next-index c.next-item.result (subst (λ xs. c.loop-next.next-index < length xs) c.deref-next-items.ensures.value c.loop-next-test.true) (c.loop-next.invariant.judged g h m makes)
    (λ a k. as_judged (ap (λ xs. fields_item p r a (get_or xs c.loop-next.next-index c.next-item.result)) (sym c.deref-next-items.ensures.value) ∙ ap (fields_item p r a) (sym c.next-item.is)) (refused (c.in_err-layout.ensures.judged a.0 k.so_far a.1 k.makes))))

pub more_field_lists-returns-clause-judged : goal.more_field_lists-returns-clause-judged
more_field_lists-returns-clause-judged t c = λ g h m makes.
    let past = c.loop-next-test.false in
    let long = ap (λ xs. length xs) c.deref-next-items.ensures.value in
    walk_ends (FieldsStand c.args.round.now) (fields_from c.args.round.now.source.now c.args.r) (out-RecordType c.args.tree.now).more.items c.loop-next.next-index (omega (arith, past, long)) (c.loop-next.invariant.judged g h m makes)
    (λ a k. fields_left c.loop-next.state c.loop-next.layout a k)

-- ---- pointers

pub pointer_type-point_to-requires-clause-element : goal.pointer_type-point_to-requires-clause-element
pointer_type-point_to-requires-clause-element t c =
    element_still c.begin_pointer.new.state.types.table c.type_of.new.state.types.table c.in_ok-of-in-None.ensures.grows (TheType.Pointer c.in_ok-pointer.pointer) c.in_ok-pointer.ensures.element

pub pointer_type-returns-in_err-pointer-clause-judged : goal.pointer_type-returns-in_err-pointer-clause-judged
pointer_type-returns-in_err-pointer-clause-judged t c = λ m makes.
    let p = c.args.round.now.source.now in
    let x = c.args.tree.now in
    exit _ c.from_residual.ensures.1
    (as_judged (pointer_law p x.pointer_word x.to_word (plain_type x.base.value) m) (stop (new_pointer m) (pointer_on p (plain_type x.base.value)) (c.in_err-pointer.ensures.judged m makes)))

pub pointer_type-returns-in-Some-clause-judged : goal.pointer_type-returns-in-Some-clause-judged
pointer_type-returns-in-Some-clause-judged t c = λ m makes.
    let p = c.args.round.now.source.now in
    let x = c.args.tree.now in
    let base = plain_type x.base.value in
    let n = c.in_ok-pointer.pointer in
    as_judged (pointer_law p x.pointer_word x.to_word base m)
    (goes_on (new_pointer m) (pointer_on p base) (c.in_ok-pointer.ensures.judged m makes) (λ a g.
    as_judged (ap (λ k. pointer_on p base (k, a.1)) (sym g.value.number) ∙ pointer_waits p n base (type_part p base) a.1 c.in-Some.name (ap (λ e. forward_name p a.1 (plain_type e)) (sym c.deref.ensures) ∙ sym (c.in-Some.ensures a.1 g.makes)))
    (c.wait_for.ensures.judged a.1 g.makes)))

pub pointer_type-returns-in-Some-clause-stands : goal.pointer_type-returns-in-Some-clause-stands
pointer_type-returns-in-Some-clause-stands t c = stands_by c.requires c.wait_for.result c.wait_for.ensures.settled (pointer_type-returns-in-Some-clause-judged t c)

pub pointer_type-returns-in-Some-clause-grows : goal.pointer_type-returns-in-Some-clause-grows
pointer_type-returns-in-Some-clause-grows t c =
    on_ok c.wait_for.result (λ e. subst (λ z. Grows c.args.state.now.types.table z.table) (sym e) c.in_ok-pointer.ensures.grows) c.wait_for.ensures.types

pub pointer_type-returns-in_err-of-in-None-clause-judged : goal.pointer_type-returns-in_err-of-in-None-clause-judged
pointer_type-returns-in_err-of-in-None-clause-judged t c = λ m makes.
    let p = c.args.round.now.source.now in
    let x = c.args.tree.now in
    let base = plain_type x.base.value in
    let n = c.in_ok-pointer.pointer in
    exit _ c.from_residual-in_err-of-in-None.ensures.1
    (as_judged (pointer_law p x.pointer_word x.to_word base m)
    (goes_on (new_pointer m) (pointer_on p base) (c.in_ok-pointer.ensures.judged m makes) (λ a g.
    as_judged (ap (λ k. pointer_on p base (k, a.1)) (sym g.value.number) ∙ pointer_points p n base (type_part p base) a.1 (ap (λ e. forward_name p a.1 (plain_type e)) (sym c.deref.ensures) ∙ sym (c.in-None.ensures a.1 g.makes)))
    (stop _ _ (as_judged (ap (λ e. type_part p (plain_type e) a.1) (sym c.deref-in-None.ensures)) (c.in_err-of-in-None.ensures.judged a.1 g.makes))))))

pub pointer_type-returns-in_ok-of-in-None-clause-judged : goal.pointer_type-returns-in_ok-of-in-None-clause-judged
pointer_type-returns-in_ok-of-in-None-clause-judged t c = λ m makes.
    let r = c.args.round.now in
    let p = r.source.now in
    let x = c.args.tree.now in
    let base = plain_type x.base.value in
    let n = c.in_ok-pointer.pointer in
    let new = c.point_to.new.state in
    as_judged (pointer_law p x.pointer_word x.to_word base m)
    (goes_on (new_pointer m) (pointer_on p base) (c.in_ok-pointer.ensures.judged m makes) (λ a g.
    as_judged (ap (λ k. pointer_on p base (k, a.1)) (sym g.value.number) ∙ pointer_points p n base (type_part p base) a.1 (ap (λ e. forward_name p a.1 (plain_type e)) (sym c.deref.ensures) ∙ sym (c.in-None.ensures a.1 g.makes)))
    (goes_on _ _ (as_judged (ap (λ e. type_part p (plain_type e) a.1) (sym c.deref-in-None.ensures)) (c.in_ok-of-in-None.ensures.judged a.1 g.makes)) (λ s k.
    subst (λ (z : Shape). Answers (Gave (IsTypeOf new) r new) (points_to p n base z s.1) c.point_to.result) k.value.shape_is
    (subst (λ e. Answers (Gave (IsTypeOf new) r new) (points_to p n (plain_type e) (type_shape (table_of c.type_of.new.state) c.in_ok-of-in-None.of) s.1) c.point_to.result) c.deref-in-None-2.ensures (c.point_to.ensures.judged s.1 k.makes))))))

pub pointer_type-returns-in_ok-of-in-None-clause-stands : goal.pointer_type-returns-in_ok-of-in-None-clause-stands
pointer_type-returns-in_ok-of-in-None-clause-stands t c = stands_by c.requires c.point_to.result c.point_to.ensures.settled (pointer_type-returns-in_ok-of-in-None-clause-judged t c)

pub pointer_type-returns-in_ok-of-in-None-clause-grows : goal.pointer_type-returns-in_ok-of-in-None-clause-grows
pointer_type-returns-in_ok-of-in-None-clause-grows t c =
    let s = c.args.state.now.types.table in
    let u = c.type_of.new.state.types.table in
    on_ok c.point_to.result (λ g. grows_on s u c.point_to.new.state.types.table (grows_on s c.begin_pointer.new.state.types.table u c.in_ok-pointer.ensures.grows c.in_ok-of-in-None.ensures.grows) g) c.point_to.ensures.grows

-- ---- types stay legal

pub type_of-returns-in-Named-clause-legal : goal.type_of-returns-in-Named-clause-legal
type_of-returns-in-Named-clause-legal t c = λ from m makes tidy. all_ok c.type_at.result (λ legal. legal)

pub array_type-returns-clause-legal : goal.array_type-returns-clause-legal
array_type-returns-clause-legal t c = λ from m makes tidy.
    let r = c.args.round.now in
    let p = r.source.now in
    let x = c.args.tree.now in
    let u = c.type_of.new.state in
    let ns = settled (lengths_part p (plain_expression x.first) (plain_each_expression x.more.items) m.world) (as_judged (ap (λ es. lengths_part p (plain_expression x.first) (plain_each_expression es) m.world) (sym c.deref.ensures.value)) (c.in_ok-lengths.ensures m makes)) in
    let s = settled (type_part p (plain_type x.element.value) m) (as_judged (ap (λ e. type_part p (plain_type e) m) (sym c.deref-2.ensures)) (c.in_ok-element.ensures.judged m makes)) in
    let left = (given s.0 (s_type from p {Before = Unit {0}} (plain_type x.element.value) m) s.1).tidy tt tidy in
    let known = subst (λ rs. IsKnown rs (type_shape (table_of u) c.in_ok-element.element)) (records_are r u (s.0).1 (s.2).makes) (subst (IsKnown (records_of (s.0).1)) (sym ((s.2).value.shape_is)) left.1) in
    let allowed = subst AreLengths (sym (c.deref-3.ensures.value ∙ ns.2)) (given ns.0 (lengths_allowed p m.world (plain_expression x.first) (plain_each_expression x.more.items)) ns.1) in
    on_ok c.arrays.result (λ f legal. f allowed known (c.in_ok-element.ensures.legal from m makes tidy legal)) c.arrays.ensures.legal

pub record_type-returns-clause-legal : goal.record_type-returns-clause-legal
record_type-returns-clause-legal t c = λ from m makes tidy.
    let r = c.args.round.now in
    let p = r.source.now in
    let o = out-RecordType c.args.tree.now in
    let n = c.in_ok-begun.begun.number in
    let first = plain_maybe_fields o.first in
    let more = plain_each_fields o.more.items in
    let a = settled (begun_part p o.base m) (c.in_ok-begun.ensures.judged m makes) in
    let b = given a.0 (begun_from from p m o.base) a.1 in
    let g = (((a.0).0).1) in
    let k = (a.0).1 in
    let d = settled (fields_of p n first more g k) (c.in_ok-layout.ensures.judged g (a.2).value.so_far k (a.2).makes) in
    let stays = given d.0 (fields_stay from p n first more b.base g k) d.1 in
    let blank = subst (λ i. slice_get (records_of k) i ≡ Some no_layout) (sym (a.2).value.number) b.blank in
    let there = subst (λ rs. slice_get rs n ≡ Some no_layout) (records_are r c.field_lists.new.state (d.0).1 (d.2).makes) (still_blank from _ _ k d.0 n stays blank) in
    on_ok c.record_of.result (λ f legal.
    f (subst (λ z. slice_get (known_of z.table).records n ≡ Some no_layout) (sym c.names_back.ensures.types) there)
    (subst (λ z. HasLegalTypes z.table) (sym c.names_back.ensures.types) (c.in_ok-layout.ensures.legal from b.base g k (a.2).value.so_far (a.2).makes b.adding (b.tidy tidy) (c.in_ok-begun.ensures.legal legal)))) c.record_of.ensures.legal

pub field_lists-returns-clause-legal : goal.field_lists-returns-clause-legal
field_lists-returns-clause-legal t c = λ from b g m h makes adding tidy.
    let p = c.args.round.now.source.now in
    let o = out-RecordType c.args.tree.now in
    let first = plain_maybe_fields o.first in
    let z = settled (fields_part p c.args.r first g m) (c.in_ok-first.ensures.judged g h m makes) in
    let left = (given z.0 (s_fields from p c.args.r b first g m (λ k. k)) z.1).tidy adding tidy in
    on_ok c.more_field_lists.result (λ f legal. f (c.in_ok-first.ensures.legal from b g m h makes adding tidy legal)) (c.more_field_lists.ensures.legal from b (z.0).0 (z.0).1 (z.2).value (z.2).makes left.1 left.0)

pub field_list-returns-in_ok-of-in-Some-clause-legal : goal.field_list-returns-in_ok-of-in-Some-clause-legal
field_list-returns-in_ok-of-in-Some-clause-legal t c = λ from b g m h makes adding tidy.
    let p = c.args.round.now.source.now in
    let xs = idents_list (plain_idents c.in-Some.inner.names) in
    let u = settled (judged_names p xs g m) (c.in_ok-begin_fields-in-Some.ensures.judged g h m makes) in
    let left = (given u.0 (s_stand_fields from p {Before = Unit {0}} xs g m) u.1).tidy tt tidy in
    all_ok c.add_fields.result (λ legal. c.in_ok-of-in-Some.ensures.legal from (u.0).1 (u.2).makes left.0 (subst (λ z. HasLegalTypes z.table) (sym c.in_ok-begin_fields-in-Some.ensures.types) legal))

pub more_field_lists-returns-clause-legal : goal.more_field_lists-returns-clause-legal
more_field_lists-returns-clause-legal t c = λ from b g m h makes adding tidy. (c.loop-next.invariant.legal from b g m h makes adding tidy).stands.legal

pub pointer_type-returns-in-Some-clause-legal : goal.pointer_type-returns-in-Some-clause-legal
pointer_type-returns-in-Some-clause-legal t c = λ from m makes tidy.
    on_ok c.wait_for.result (λ f legal. f (c.in_ok-pointer.ensures.legal legal)) c.wait_for.ensures.legal

pub pointer_type-returns-in_ok-of-in-None-clause-legal : goal.pointer_type-returns-in_ok-of-in-None-clause-legal
pointer_type-returns-in_ok-of-in-None-clause-legal t c = λ from m makes tidy.
    let a = settled (new_pointer m) (c.in_ok-pointer.ensures.judged m makes) in
    let left = given a.0 (pointer_from from c.args.round.now.source.now m tidy) a.1 in
    on_ok c.point_to.result (λ f legal. f (c.in_ok-of-in-None.ensures.legal from (a.0).1 (a.2).makes left (c.in_ok-pointer.ensures.legal legal))) c.point_to.ensures.legal
