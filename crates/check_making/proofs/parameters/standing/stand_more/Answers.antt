use Rattle.std.proofs.Common.{refl, ◌∙◌, arith}
use Rattle.check_types.proofs.steps.Answering.{exit}
use Rattle.check_making.proofs.parameters.Answering.{refused}
use Rattle.check_making.proofs.parameters.Rounds.{walk_begins, walk_on, walk_stops, walk_ends}
use Rattle.check_making.proofs.parameters.InLists.{StateMakes, names_from, name_item, names_law, as_state, state_left}
use Rattle.check_making.proofs.parameters.standing.stand_more.Goals as goal

pub loop-next-init : goal.loop-next-init
loop-next-init c =
    let r = c.args.round.now in
    record { settled = c.requires; types = refl; judged = λ m makes. walk_begins (StateMakes r) (names_from r) (tt, m) c.args.state.now c.args.more.now makes }

pub loop-next-preserved : goal.loop-next-preserved
loop-next-preserved c =
    let r = c.args.round.now in
    record {
      settled = c.in_ok-stand.ensures.settled;
      types = c.in_ok-stand.ensures.types ∙ c.loop-next.invariant.types;
      judged = λ m makes.
          walk_on (names_from r) (name_item r) (names_law r) c.args.more.now c.loop-next.next-index _ c.loop-next-test.true (c.loop-next.invariant.judged m makes)
          (λ a k. as_state _ (c.in_ok-stand.ensures.judged a.1 k));
    }

pub returns-in_err-stand-clause-judged : goal.returns-in_err-stand-clause-judged
returns-in_err-stand-clause-judged c = λ m makes.
    let r = c.args.round.now in
    exit _ c.from_residual.ensures.1
    (walk_stops (names_from r) (name_item r) (names_law r) c.args.more.now c.loop-next.next-index _ c.loop-next-test.true (c.loop-next.invariant.judged m makes)
    (λ a k. refused (c.in_err-stand.ensures.judged a.1 k)))

pub returns-clause-judged : goal.returns-clause-judged
returns-clause-judged c = λ m makes.
    let r = c.args.round.now in
    let past = c.loop-next-test.false in
    walk_ends (StateMakes r) (names_from r) c.args.more.now c.loop-next.next-index (omega (arith, past)) (c.loop-next.invariant.judged m makes) (λ a k. state_left a k)
