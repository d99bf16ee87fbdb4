use Rattle.std.proofs.Common.{[]}
use Rattle.check_types.proofs.steps.Answering.{goes_on, stop, exit, as_judged}
use Rattle.check_types.specs.names.Worlds.{world_of}
use Rattle.check_statements.proofs.cases.Labelling.{ranges_are}
use Rattle.check_statements.proofs.cases.labels.value_labels.Goals as goal

pub returns-in_err-labelled : goal.returns-in_err-labelled
returns-in_err-labelled c = λ ts h. exit _ c.from_residual.ensures.1 (as_judged (ranges_are c.args.scope.now.source.now (world_of c.args.scope.now) c.args.of_char ts c.args.first.now c.args.more.now)
    (stop _ _ (c.in_err-labelled.ensures (record { labels = []; taken = ts }) (record { labels = c.new.ensures; taken = h }))))

pub returns : goal.returns
returns c = λ ts h. as_judged (ranges_are c.args.scope.now.source.now (world_of c.args.scope.now) c.args.of_char ts c.args.first.now c.args.more.now)
    (goes_on _ _ (c.in_ok-labelled.ensures (record { labels = []; taken = ts }) (record { labels = c.new.ensures; taken = h })) (λ z k. c.with_ranges.ensures z k))
