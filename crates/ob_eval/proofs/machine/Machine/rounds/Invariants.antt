use Rattle.std.proofs.Common.{◌≡◌, ◌≤◌}
use Rattle.eval_tasks.specs.Tasks.{branching}
use Rattle.eval_tasks.specs.declared.task.Branching.TheVariants.{Rounds}
use Rattle.ob_eval.specs.Steps.{before}
use Rattle.ob_eval.proofs.machine.Machine.rounds.Given as goal

abbrev pub invariant-rounds : goal.invariant-rounds
invariant-rounds l = record {
  same : l.self ≡ record l.fn.self { world = l.self.world };
  left : before l.laid (branching l.laid (Rounds l.most) l.all) l.fn.self ≡ before l.laid (branching l.laid (Rounds l.n) l.all) l.self;
  turns : l.self.world.turns ≤ l.fn.self.world.turns;
}

abbrev pub decreases-rounds : goal.decreases-rounds
decreases-rounds l = l.n
