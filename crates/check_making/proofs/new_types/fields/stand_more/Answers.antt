use Rattle.std.proofs.Common.{◌∙◌, refl, sym, subst, arith}
use Rattle.check_types.proofs.steps.Answering.{exit}
use Rattle.check_making.proofs.parameters.Answering.{refused}
use Rattle.check_making.proofs.parameters.Rounds.{walk_begins, walk_on, walk_stops, walk_ends}
use Rattle.check_making.proofs.parameters.InLists.{StateMakes, as_state, state_left}
use Rattle.check_making.specs.new_types.Layouts.{IsSoFar}
use Rattle.check_making.proofs.new_types.FieldLists.{names_from, name_item, names_step}
use Rattle.check_making.proofs.new_types.fields.stand_more.Goals as goal

pub loop-next-init : goal.loop-next-init
loop-next-init c =
    let p = c.args.round.now.source.now in
    record { settled = c.requires; types = refl; judged = λ g h m makes. walk_begins (StateMakes c.args.round.now) (names_from p g) (tt, m) c.args.state.now c.args.more.now makes }

pub loop-next-preserved : goal.loop-next-preserved
loop-next-preserved c =
    let p = c.args.round.now.source.now in
    record {
      settled = c.in_ok-stand_field.ensures.settled;
      types = c.in_ok-stand_field.ensures.types ∙ c.loop-next.invariant.types;
      judged = λ g h m makes.
          walk_on (names_from p g) (name_item p g) (names_step p g) c.args.more.now c.loop-next.next-index _ c.loop-next-test.true (c.loop-next.invariant.judged g h m makes)
          (λ a k. as_state _ (c.in_ok-stand_field.ensures.judged g (subst (λ z. IsSoFar z.table c.args.layout.now g) (sym c.loop-next.invariant.types) h) a.1 k));
    }

pub returns-in_err-stand_field-clause-judged : goal.returns-in_err-stand_field-clause-judged
returns-in_err-stand_field-clause-judged c = λ g h m makes.
    let p = c.args.round.now.source.now in
    exit _ c.from_residual.ensures.1
    (walk_stops (names_from p g) (name_item p g) (names_step p g) c.args.more.now c.loop-next.next-index _ c.loop-next-test.true (c.loop-next.invariant.judged g h m makes)
    (λ a k. refused (c.in_err-stand_field.ensures.judged g (subst (λ z. IsSoFar z.table c.args.layout.now g) (sym c.loop-next.invariant.types) h) a.1 k)))

pub returns-clause-judged : goal.returns-clause-judged
returns-clause-judged c = λ g h m makes.
    let past = c.loop-next-test.false in
    walk_ends (StateMakes c.args.round.now) (names_from c.args.round.now.source.now g) c.args.more.now c.loop-next.next-index (omega (arith, past)) (c.loop-next.invariant.judged g h m makes) (λ a k. state_left a k)
