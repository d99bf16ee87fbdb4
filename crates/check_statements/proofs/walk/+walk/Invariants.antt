use Rattle.std.proofs.Common.{drop}
use Rattle.ob_judge.specs.Image.{Statements, Branches}
use Rattle.ob_judge.specs.Cases.{SelectorOf}
use Rattle.check_statements.specs.steps.Steps.{put_more, branches_more, branches_more_do, part_more}
use Rattle.check_types.specs.names.Worlds.{world_of}
use Rattle.check_expressions.proofs.Walking.{Walking}
use Rattle.check_statements.specs.Standing.{ArePut, ArePutBranches, SoFar, ArePutParts}
use Rattle.check_statements.proofs.walk.+walk.Given as goal

abbrev pub invariant-further-loop-next : goal.invariant-further-loop-next
invariant-further-loop-next l = (a : Statements → Statements) → ArePut l.scope l.fn.first a →
    Walking (ArePut l.scope) (put_more l.scope.source.now (world_of l.scope)) (put_more l.scope.source.now (world_of l.scope) a l.more) l.all (drop l.next-index l.more)

abbrev pub invariant-elsifs-loop-next : goal.invariant-elsifs-loop-next
invariant-elsifs-loop-next l = (a : Branches → Branches) → ArePutBranches l.scope l.fn.first a →
    Walking (ArePutBranches l.scope) (branches_more l.scope.source.now (world_of l.scope)) (branches_more l.scope.source.now (world_of l.scope) a l.more) l.all (drop l.next-index l.more)

abbrev pub invariant-elsif_dos-loop-next : goal.invariant-elsif_dos-loop-next
invariant-elsif_dos-loop-next l = (a : Branches → Branches) → ArePutBranches l.scope l.fn.first a →
    Walking (ArePutBranches l.scope) (branches_more_do l.scope.source.now (world_of l.scope)) (branches_more_do l.scope.source.now (world_of l.scope) a l.more) l.all (drop l.next-index l.more)

abbrev pub invariant-case_parts-loop-next : goal.invariant-case_parts-loop-next
invariant-case_parts-loop-next l = (on : SelectorOf) (a : SoFar) → ArePutParts l.scope on l.fn.first a →
    Walking (ArePutParts l.scope on) (part_more l.scope.source.now (world_of l.scope) on) (part_more l.scope.source.now (world_of l.scope) on a l.more) l.all (drop l.next-index l.more)
