use Rattle.std.proofs.Common.{arith}
use Rattle.check_types.proofs.steps.Answering.{exit}
use Rattle.check_types.specs.TypeMeaning.{type_shape}
use Rattle.check_making.specs.Making.{table_of}
use Rattle.check_making.proofs.parameters.Rounds.{walk_begins, walk_on, walk_stops, walk_ends}
use Rattle.check_making.specs.new_types.Layouts.{IsSoFarIn}
use Rattle.check_making.proofs.new_types.FieldLists.{fields_from, field_item, fields_step}
use Rattle.check_making.proofs.new_types.fields.add_more.Goals as goal

pub loop-next-init : goal.loop-next-init
loop-next-init c = λ g h m makes.
    walk_begins (IsSoFarIn c.args.state.now) (fields_from c.args.round.now.source.now c.args.r m.world (type_shape (table_of c.args.state.now) c.args.of)) g c.args.first c.args.more.now h

pub loop-next-preserved : goal.loop-next-preserved
loop-next-preserved c = λ g h m makes.
    let p = c.args.round.now.source.now in
    let shape = type_shape (table_of c.args.state.now) c.args.of in
    walk_on (fields_from p c.args.r m.world shape) (field_item p c.args.r m.world shape) (fields_step p c.args.r m.world shape) c.args.more.now c.loop-next.next-index _ c.loop-next-test.true (c.loop-next.invariant g h m makes)
    (λ a k. c.in_ok-layout.ensures a k m makes)

pub returns-in_err-layout : goal.returns-in_err-layout
returns-in_err-layout c = λ g h m makes.
    let p = c.args.round.now.source.now in
    let shape = type_shape (table_of c.args.state.now) c.args.of in
    exit _ c.from_residual.ensures.1
    (walk_stops (fields_from p c.args.r m.world shape) (field_item p c.args.r m.world shape) (fields_step p c.args.r m.world shape) c.args.more.now c.loop-next.next-index _ c.loop-next-test.true (c.loop-next.invariant g h m makes)
    (λ a k. c.in_err-layout.ensures a k m makes))

pub returns : goal.returns
returns c = λ g h m makes.
    let p = c.args.round.now.source.now in
    let past = c.loop-next-test.false in
    walk_ends (IsSoFarIn c.args.state.now) (fields_from p c.args.r m.world (type_shape (table_of c.args.state.now) c.args.of)) c.args.more.now c.loop-next.next-index (omega (arith, past)) (c.loop-next.invariant g h m makes)
    (λ a k. record { by = k })
