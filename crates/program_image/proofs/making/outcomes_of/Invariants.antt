use Rattle.ob_types.specs.declared.program.Program.{Program}
use Rattle.alloc_choice.specs.declared.choice.Choice.{Choice}
use Rattle.program_image.specs.Tasks.{AreTasks}
use Rattle.program_image.proofs.Tasks.{IsUnderWay}
use Rattle.program_image.proofs.making.outcomes_of.Given as goal

abbrev pub invariant-loop-task : goal.invariant-loop-task
invariant-loop-task l = (choice : Choice) (p : Program) → AreTasks choice p 0 p.procedures l.fn.tasks.items → IsUnderWay choice p l.outcomes.items l.task-iterator.rest.items
