use Rattle.std.proofs.Common.{refl, sym, ap, ap₂, ◌∙◌, ◌++◌, ◌∷◌, [], arith}
use Rattle.check_types.proofs.steps.Answering.{exit, stop, goes_on, as_judged}
use Rattle.check_making.proofs.parameters.Rounds.{walk_begins, walk_on, walk_stops, walk_ends}
use Rattle.check_declared.specs.type_parts.Lengths.{AreTheLengths}
use Rattle.check_declared.proofs.type_parts.ArrayLengths.{lengths_from, length_item, lengths_law, lengths_end}
use Rattle.check_declared.proofs.type_parts.lengths.more_lengths.Goals as goal

pub loop-next-init : goal.loop-next-init
loop-next-init c = λ m makes. walk_begins AreTheLengths (lengths_from c.args.round.now.source.now m.world) c.args.first.items c.args.first c.args.more.now refl

pub loop-next-preserved : goal.loop-next-preserved
loop-next-preserved c = λ m makes.
    let p = c.args.round.now.source.now in
    walk_on (lengths_from p m.world) (length_item p m.world) (lengths_law p m.world) c.args.more.now c.loop-next.next-index c.next-item.result c.loop-next-test.true (c.loop-next.invariant m makes)
    (λ a k. as_judged (ap (length_item p m.world a) (sym c.next-item.is)) (goes_on _ _ (c.in_ok-length.ensures m makes) (λ n is. record { by = c.in_ok-push.ensures.items ∙ ap₂ (λ xs x. xs ++ x ∷ []) k is })))

pub returns-in_err-length : goal.returns-in_err-length
returns-in_err-length c = λ m makes.
    let p = c.args.round.now.source.now in
    exit _ c.from_residual.ensures.1
    (walk_stops (lengths_from p m.world) (length_item p m.world) (lengths_law p m.world) c.args.more.now c.loop-next.next-index c.next-item.result c.loop-next-test.true (c.loop-next.invariant m makes)
    (λ a k. as_judged (ap (length_item p m.world a) (sym c.next-item.is)) (stop _ _ (c.in_err-length.ensures m makes))))

pub returns : goal.returns
returns c = λ m makes.
    let past = c.loop-next-test.false in
    walk_ends AreTheLengths (lengths_from c.args.round.now.source.now m.world) c.args.more.now c.loop-next.next-index (omega (arith, past)) (c.loop-next.invariant m makes)
    (λ a k. as_judged (lengths_end c.args.round.now.source.now m.world a) (record { by = k }))
