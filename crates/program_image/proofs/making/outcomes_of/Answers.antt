use Rattle.std.proofs.Common.{◌∷◌, ◌∙◌, ap, rules}
use Rattle.trace_pool.proofs.Finish.{nil_of}
use Rattle.program_image.proofs.Tasks.{ended, further, told}
use Rattle.program_image.proofs.making.outcomes_of.Goals as goal

pub loop-task-preserved : goal.loop-task-preserved
loop-task-preserved c choice p are =
    let rest = c.next.new.self.rest.items in
    further choice p c.loop-task.outcomes.items c.push.new.self.items c.loop-task.task-iterator.rest.items rest c.in-Lowered.outcome (c.loop-task.invariant choice p are) (c.in-Some.ensures.steps.0 ∙ ap (λ t. t ∷ rest) c.in-Lowered.is) c.in-Ok-push.ensures.items

pub returns-in-Past-clause-limit : goal.returns-in-Past-clause-limit
returns-in-Past-clause-limit c choice p are =
    let rest = c.next.new.self.rest.items in
    told choice p c.loop-task.outcomes.items c.loop-task.task-iterator.rest.items rest c.in-Past.number c.in-Past.index (c.loop-task.invariant choice p are) (c.in-Some.ensures.steps.0 ∙ ap (λ t. t ∷ rest) c.in-Past.is)

pub returns-clause-made : goal.returns-clause-made
returns-clause-made c choice p are =
    let none = nil_of c.loop-task.task-iterator.rest.items c.loop-task.task-iterator.rest.len (search rules) c.in-None.ensures.steps.0 in
    ended choice p c.loop-task.outcomes.items c.loop-task.task-iterator.rest.items (c.loop-task.invariant choice p are) none
