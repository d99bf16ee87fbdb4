use Rattle.std.proofs.Common.{ap, ◌∙◌}
use Rattle.batch_serve.proofs.Moves.{begins, forks}
use Rattle.batch_serve.specs.Rule.{with_sender}
use Rattle.batch_serve.proofs.desk.Desk.open.Goals as goal

pub ruled-requires-clause-rule : goal.ruled-requires-clause-rule
ruled-requires-clause-rule c = begins

pub another-first-requires-clause-rule : goal.another-first-requires-clause-rule
another-first-requires-clause-rule c = forks _ _ _ _ _ c.in_ok-queue.ensures.3

pub another-second-requires-clause-rule : goal.another-second-requires-clause-rule
another-second-requires-clause-rule c = forks _ _ _ _ _ (c.another-first.ensures.rule.0 ∙ ap with_sender c.in_ok-queue.ensures.3)
