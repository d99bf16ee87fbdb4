use Rattle.std.proofs.Common.{drop}
use Rattle.ob_judge.specs.Cases.{Labelled}
use Rattle.check_types.proofs.steps.Answering.{Judging}
use Rattle.check_types.specs.names.Worlds.{world_of}
use Rattle.check_statements.specs.cases.Labels.{IsLabelled, labelled_more}
use Rattle.check_statements.proofs.cases.labels.with_ranges.Given as goal

abbrev pub invariant-loop-next : goal.invariant-loop-next
invariant-loop-next l = (a : Labelled) → IsLabelled l.fn.first a →
    Judging IsLabelled (labelled_more l.scope.source.now (world_of l.scope) l.of_char) (labelled_more l.scope.source.now (world_of l.scope) l.of_char a l.more) l.labelled (drop l.next-index l.more)
