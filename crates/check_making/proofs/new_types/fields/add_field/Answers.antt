use Rattle.std.proofs.Common.{◌∷◌, [], ◌∙◌, length, ap, subst}
use Rattle.ob_judge.specs.Scopes.{World}
use Rattle.ob_judge.specs.Types.{add_fields}
use Rattle.check_types.specs.Known.{known_of}
use Rattle.check_types.specs.TypeMeaning.{type_shape}
use Rattle.check_making.specs.Making.{table_of}
use Rattle.check_making.proofs.parameters.Answering.{formed_by}
use Rattle.check_making.proofs.parameters.Stages.{on_ok_if}
use Rattle.check_making.specs.new_types.Fields.{IsWith}
use Rattle.check_making.proofs.new_types.Cells.{shapes_narrow}
use Rattle.check_making.proofs.new_types.LayoutsSoFar.{records_narrow}
use Rattle.check_making.proofs.new_types.FieldLists.{with_one}
use Rattle.check_making.proofs.new_types.fields.add_field.Goals as goal

pub returns : goal.returns
returns c = λ g h m makes.
    let p = c.args.round.now.source.now in
    let t = c.args.state.now.types.table in
    let unit = c.args.round.now.module_number in
    formed_by (add_fields p c.args.r m.world (type_shape (table_of c.args.state.now) c.args.of) (c.args.ident.now ∷ []) g) c.with_field.result
    (on_ok_if c.with_field.result c.with_field.ensures.with (λ l w.
    with_one p t c.args.layout l c.args.ident.now c.args.r c.in_ok-number.number unit c.args.of c.cells-cells.result c.extent-extent.result (c.in_ok-number.ensures.number ∙ ap (λ as'. length as') c.deref.ensures.value) c.requires.element c.cells-cells.ensures c.extent-extent.ensures
    (shapes_narrow (known_of t) (records_narrow c.args.state.now.types c.requires.built) (type_shape t.types c.args.of))
    (subst (λ b. IsWith p c.args.layout c.args.ident.now (record { adder = c.args.r; number = c.in_ok-number.number; of = c.args.of; exported = b; owner = unit }) c.cells-cells.result c.extent-extent.result l) c.is_some-exported.ensures w)
    g h m.world (ap (λ (v : World). v.known) makes.world) (ap (λ (v : World). v.module_number) makes.world)))
    c.with_field.ensures.memory
