use Rattle.std.proofs.Common.{refl}
use Rattle.ob_syntax.specs.declared.statements.NextRange.{NextRange}
use Rattle.check_types.proofs.steps.Answering.{exit, round_on, round_stops}
use Rattle.check_types.specs.names.Worlds.{world_of}
use Rattle.check_statements.specs.cases.Labels.{labelled_one, labelled_more}
use Rattle.check_statements.proofs.cases.labels.with_ranges.Goals as goal

pub returns-in_err-labelled : goal.returns-in_err-labelled
returns-in_err-labelled c = λ a h. exit _ c.from_residual.ensures.1 (round_stops (labelled_more c.args.scope.now.source.now (world_of c.args.scope.now) c.args.of_char) (λ b (x : NextRange). labelled_one c.args.scope.now.source.now (world_of c.args.scope.now) c.args.of_char b x.range) (λ _ _ _. refl) c.args.more.now c.loop-next.next-index _ c.loop-next-test.true (c.loop-next.invariant a h)
    (λ b k. c.in_err-labelled.ensures b k))

pub loop-next-preserved : goal.loop-next-preserved
loop-next-preserved c = λ a h. round_on (labelled_more c.args.scope.now.source.now (world_of c.args.scope.now) c.args.of_char) (λ b (x : NextRange). labelled_one c.args.scope.now.source.now (world_of c.args.scope.now) c.args.of_char b x.range) (λ _ _ _. refl) c.args.more.now c.loop-next.next-index _ c.loop-next-test.true (c.loop-next.invariant a h)
    (λ b k. c.in_ok-labelled.ensures b k)
